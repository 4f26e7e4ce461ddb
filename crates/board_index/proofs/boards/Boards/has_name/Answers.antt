use Rattle.std.proofs.Common.{ap, is_some, ◌∙◌}
use Rattle.std.specs.List.{list_any}
use Rattle.board_model.specs.Tables.{has_name}
use Rattle.board_index.specs.Boards.{Rows, called}
use Rattle.board_index.proofs.Indexed.{has_named}
use Rattle.board_index.proofs.boards.Boards.has_name.Goals as goal

pub returns : goal.returns
returns g c = c.contains_key.ensures ∙ ap (λ t. is_some (called c.self.inside.names t)) c.as_bytes.ensures.value ∙ has_named c.self.invariant c.args.name.now ∙ ap (λ (d : Rows g.row.C.Denot). list_any (has_name c.args.name.now) d.boards) c.self.view_is
