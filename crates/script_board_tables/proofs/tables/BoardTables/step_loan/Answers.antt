use Rattle.script_board_tables.proofs.StepLemmas.{lends}
use Rattle.script_board_tables.proofs.tables.BoardTables.step_loan.Goals as goal

pub returns : goal.returns
returns c = lends c.args.self.now c.lend.new.self c.args.party.now c.args.lent.now c.in_ok-words.words c.in_ok-words.ensures c.in_ok-lend.ensures
