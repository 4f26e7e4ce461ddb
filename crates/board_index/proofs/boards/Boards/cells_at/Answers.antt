use Rattle.std.proofs.Common.{sym, ap, ◌∙◌}
use Rattle.std.specs.Prelude.{find, is_some}
use Rattle.board_model.specs.Tables.{is_numbered}
use Rattle.board_index.specs.Boards.{Rows, cells_in}
use Rattle.board_index.proofs.Indexed.{found_cells, found_numbered, map_some}
use Rattle.board_index.proofs.boards.Boards.cells_at.Goals as goal

pub returns-clause-value : goal.returns-clause-value
returns-clause-value g c = c.get.ensures.value ∙ sym (found_cells c.self.invariant c.args.number) ∙ ap (λ (d : Rows g.row.C.Denot). cells_in d c.args.number) c.self.view_is

pub returns-clause-stands : goal.returns-clause-stands
returns-clause-stands g c =
    sym (map_some (λ x. x.now) c.get.result) ∙ ap is_some c.get.ensures.value ∙ c.self.invariant.beside c.args.number ∙ sym (ap is_some (found_numbered c.self.invariant c.args.number))
    ∙ ap (λ (d : Rows g.row.C.Denot). is_some (find (is_numbered c.args.number) d.boards)) c.self.view_is
