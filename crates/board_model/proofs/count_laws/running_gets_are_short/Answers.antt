use Rattle.board_model.proofs.count_laws.running_gets_are_short.Goals as goal
use Rattle.board_model.proofs.CountLaws.{running_get}

pub returns : goal.returns
returns c = running_get
