use Rattle.std.proofs.Common.{None, refl}
use Rattle.script_board_tables.proofs.TableLemmas.{worded}
use Rattle.script_board_tables.proofs.tables.BoardTables.forget_words.Goals as goal

pub returns : goal.returns
returns c = worded c.args.self.now _ c.args.party.now c.args.loan.now None refl (λ p n. refl) refl refl c.forget.ensures
