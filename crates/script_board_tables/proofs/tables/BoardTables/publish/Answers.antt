use Rattle.std.proofs.Common.{refl}
use Rattle.script_board_tables.proofs.TableLemmas.{added}
use Rattle.script_board_tables.proofs.tables.BoardTables.publish.Goals as goal

pub returns : goal.returns
returns c = added c.args.self.now _ c.args.board c.args.entry c.args.words refl c.in_ok-add_value.ensures.words c.in_ok-add_value.ensures.lists
