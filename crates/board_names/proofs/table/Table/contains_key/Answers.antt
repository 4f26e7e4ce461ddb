use Rattle.std.proofs.Common.{◌∙◌, ap, is_some}
use Rattle.board_names.proofs.KeyLemmas.{at-held}
use Rattle.board_names.proofs.table.Table.contains_key.Goals as goal

pub returns : goal.returns
returns g c = c.contains_key.ensures ∙ ap is_some (at-held c.self.inside.values c.args.self.now c.self.view_is c.as_bytes.result.now c.args.name.now c.as_bytes.ensures.value)
