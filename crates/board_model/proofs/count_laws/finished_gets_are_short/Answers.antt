use Rattle.board_model.proofs.count_laws.finished_gets_are_short.Goals as goal
use Rattle.board_model.proofs.CountLaws.{finished_get}

pub returns : goal.returns
returns c = finished_get
