use Rattle.board_names.proofs.KeyLemmas.{ascend-held}
use Rattle.board_names.proofs.table.Table.len.Goals as goal

pub returns-clause-ascend : goal.returns-clause-ascend
returns-clause-ascend g c = ascend-held c.self.inside.values c.args.self.now c.self.view_is c.len.ensures.ordered
