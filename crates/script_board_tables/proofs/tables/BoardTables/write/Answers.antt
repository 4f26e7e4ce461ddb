use Rattle.std.proofs.Common.{refl}
use Rattle.script_board_tables.proofs.TableLemmas.{wrote}
use Rattle.script_board_tables.proofs.tables.BoardTables.write.Goals as goal

pub returns : goal.returns
returns c = wrote c.args.self.now _ c.args.board c.args.word c.args.value refl c.set_word.ensures.words c.set_word.ensures.lists
