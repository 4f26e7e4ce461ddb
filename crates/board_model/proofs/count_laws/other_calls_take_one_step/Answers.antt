use Rattle.board_model.proofs.count_laws.other_calls_take_one_step.Goals as goal
use Rattle.board_model.proofs.CountLaws.{one_step}

pub returns : goal.returns
returns c = one_step
