use Rattle.std.proofs.Common.{◌≡◌, ℕ, List, [], ◌∷◌, ◌++◌, refl, sym, ap, ◌∙◌, arith, length-append, append_assoc}
use Rattle.board_cell.specs.Calls.{words_of}
use Rattle.board_cell.specs.Passes.{note}
use Rattle.board_cell.specs.Views.{reader_of, with_open, with_note}
use Rattle.board_cell.specs.declared.threaded.view.View.TheVariants.{Reader}
use Rattle.board_cell.proofs.Climbs.{climbs_push, last_push}
use Rattle.board_cell.proofs.OnBoard.{trying_again}
use Rattle.board_cell.proofs.threaded.cell.ThreadedCell.run_tries.Goals as goal

pub returns-then-after-before-clause-ok : goal.returns-then-after-before-clause-ok
returns-then-after-before-clause-ok c =
    let i = c.tries.invariant in
    let y = reader_of c.tries.seat.me.0 in
    let r : ℕ = c.try_once-after.result in
    let words : List ℕ = words_of c.try_once-after.new.call.reading in
    let a = c.try_once-after.ensures.accepted (c.if-after-before.true ∙ sym i.5) in
    let more = i.2 in
    let count = i.12 in (
      record {
        after = record {
          y = with_note y r words;
          is = ap (λ m. m.0) a.0;
          notes = ap (λ ns. ns ++ note r words ∷ []) i.4;
          reached = refl;
          rest = i.9;
          climbs = i.10;
          ends = i.11 ∙ sym c.if-after-before.true;
          loads = ap (λ (l : List ℕ). l ++ r ∷ []) i.13;
        };
        few = omega arith;
      },
      ap (λ k. k.reading) a.1,
    )

pub returns-then-left-eq0-clause-again : goal.returns-then-left-eq0-clause-again
returns-then-left-eq0-clause-again c =
    let i = c.tries.invariant in
    let y = reader_of c.tries.seat.me.0 in
    let r : ℕ = c.try_once-after.result in
    let a = c.try_once-after.ensures.again (λ e. c.if-after-before.false (e ∙ i.5)) in
    let up = c.try_once-after.ensures.reached.1 in
    let opened = i.5 in
    let not = c.if-after-before.false in
    let count = i.12 in
    let left = c.if-left-eq0.true in
    let more = i.2 in record {
      y = with_open y r;
      is = ap (λ m. m.0) a.0;
      notes = i.4;
      reached = refl;
      rest = i.9;
      climbs = climbs_push _ i.9 r i.10 (let last = i.11 in omega arith);
      ends = i.11;
      all = omega arith;
      loads = ap (λ (l : List ℕ). l ++ r ∷ []) i.13;
    }

pub tries-preserved : goal.tries-preserved
tries-preserved c =
    let i = c.tries.invariant in
    let y = reader_of c.tries.seat.me.0 in
    let r : ℕ = c.try_once-after.result in
    let a = c.try_once-after.ensures.again (λ e. c.if-after-before.false (e ∙ i.5)) in
    let up = c.try_once-after.ensures.reached.1 in
    let opened = i.5 in
    let not = c.if-after-before.false in
    let count = i.12 in
    let left = c.if-left-eq0.false in
    let more = i.2 in
    let now : c.try_once-after.new.seat.me.0 ≡ Reader (with_open y r) = ap (λ m. m.0) a.0 in
    let is = ap reader_of now in (
      c.try_once-after.ensures.cell ∙ i.0,
      ap (λ m. m.1) a.0 ∙ i.1,
      omega arith,
      now ∙ ap Reader (sym is),
      ap (λ x. x.notes) is ∙ i.4,
      ap (λ x. x.opened) is,
      ap (λ x. x.found) is,
      trying_again _ c.tries.call c.try_once-after.new.call y (reader_of c.try_once-after.new.seat.me.0) r i.7 a.1 is,
      ap (λ k. k.shape) a.1 ∙ i.8,
      i.9 ++ r ∷ [],
      climbs_push _ i.9 r i.10 (let last = i.11 in omega arith),
      last_push _ i.9 r,
      omega (arith, length-append i.9 (r ∷ [])),
      ap (λ x. x.loads) is ∙ (ap (λ (l : List ℕ). l ++ r ∷ []) i.13 ∙ append_assoc _ i.9 (r ∷ [])),
    )
