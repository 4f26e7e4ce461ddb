use Rattle.script_board_tables.proofs.StepLemmas.{discards}
use Rattle.script_board_tables.proofs.tables.BoardTables.step_discard.Goals as goal

pub returns : goal.returns
returns c = discards c.args.self.now c.give_back.new.self c.args.party.now c.args.lent.now c.in_ok-give_back.ensures
