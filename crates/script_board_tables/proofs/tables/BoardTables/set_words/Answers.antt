use Rattle.std.proofs.Common.{Some, refl}
use Rattle.script_board_tables.proofs.TableLemmas.{worded}
use Rattle.script_board_tables.proofs.tables.BoardTables.set_words.Goals as goal

pub returns : goal.returns
returns c = worded c.args.self.now _ c.args.party.now c.args.loan.now (Some c.args.words) refl (λ p n. refl) refl refl c.in_ok-put.ensures
