use Rattle.std.proofs.Common.{◌≡◌, ℕ, List, [], ◌∷◌, ◌++◌, sym, ap, ◌∙◌, arith, append_assoc}
use Rattle.board_cell.specs.Views.{reader_of, with_open}
use Rattle.board_cell.specs.declared.threaded.view.View.TheVariants.{Reader}
use Rattle.board_cell.proofs.Climbs.{climbs_push, last_push}
use Rattle.board_cell.proofs.OnBoard.{trying_again}
use Rattle.board_cell.proofs.threaded.cell.ThreadedCell.run_all.Goals as goal

pub tries-preserved : goal.tries-preserved
tries-preserved g c =
    let i = c.tries.invariant in
    let y = reader_of c.tries.seat.me.0 in
    let r : ℕ = c.try_once-after.result in
    let a = c.try_once-after.ensures.again (λ e. c.if-after-before.false (e ∙ i.4)) in
    let up = c.try_once-after.ensures.reached.1 in
    let opened = i.4 in
    let not = c.if-after-before.false in
    let now : c.try_once-after.new.seat.me.0 ≡ Reader (with_open y r) = ap (λ m. m.0) a.0 in
    let is = ap reader_of now in (
      c.try_once-after.ensures.cell ∙ i.0,
      ap (λ m. m.1) a.0 ∙ i.1,
      now ∙ ap Reader (sym is),
      ap (λ x. x.notes) is ∙ i.3,
      ap (λ x. x.opened) is,
      ap (λ x. x.found) is,
      trying_again _ c.tries.call c.try_once-after.new.call y (reader_of c.try_once-after.new.seat.me.0) r i.6 a.1 is,
      ap (λ k. k.shape) a.1 ∙ i.7,
      i.8 ++ r ∷ [],
      climbs_push _ i.8 r i.9 (let last = i.10 in omega arith),
      last_push _ i.8 r,
      ap (λ x. x.loads) is ∙ (ap (λ (l : List ℕ). l ++ r ∷ []) i.11 ∙ append_assoc _ i.8 (r ∷ [])),
    )
