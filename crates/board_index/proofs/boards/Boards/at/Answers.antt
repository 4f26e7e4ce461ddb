use Rattle.std.proofs.Common.{sym, ap, ◌∙◌}
use Rattle.std.specs.Prelude.{find}
use Rattle.board_model.specs.Tables.{is_numbered}
use Rattle.board_index.specs.Boards.{Rows}
use Rattle.board_index.proofs.Indexed.{found_numbered}
use Rattle.board_index.proofs.boards.Boards.at.Goals as goal

pub returns : goal.returns
returns g c = c.row_in.ensures ∙ sym (found_numbered c.self.invariant c.args.number) ∙ ap (λ (d : Rows g.row.C.Denot). find (is_numbered c.args.number) d.boards) c.self.view_is
