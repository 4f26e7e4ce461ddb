use Rattle.std.proofs.Common.{rules, ◌≡◌, length, refl, sym, ap, ◌∙◌, subst, arith}
use Rattle.board_cell.specs.Passes.{NotesRise}
use Rattle.board_cell.specs.Views.{reader_of}
use Rattle.board_cell.specs.declared.threaded.view.ReaderView.{ReaderView}
use Rattle.board_cell.proofs.ReaderSteps.{closing_at}
use Rattle.board_cell.proofs.threaded.cell.ThreadedCell.load_closing.Goals as goal

pub load-requires : goal.load-requires
load-requires c =
    let x = reader_of c.args.seat.now.me.0 in
    let same : length c.self.inside.table.shared.key.items ≡ c.args.self.now.width = c.self.invariant.1 ∙ ap (λ v. v.width) c.self.view_is in
    let wide = c.self.invariant.0 in
    (search rules, omega arith, closing_at _ _ _ _ x c.requires.seat _ refl (c.requires.last ∙ sym same))

pub returns-clause-reached : goal.returns-clause-reached
returns-clause-reached c = let told = c.load.ensures.2 _ c.requires.seat in (told.1, told.2)

pub returns-clause-rises : goal.returns-clause-rises
returns-clause-rises c =
    let told = c.load.ensures.2 _ c.requires.seat in
    subst (λ (x : ReaderView). NotesRise x.notes) (sym (ap (λ m. reader_of m.0) told.0)) told.3
