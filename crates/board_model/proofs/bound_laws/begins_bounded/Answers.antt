use Rattle.board_model.proofs.bound_laws.begins_bounded.Goals as goal
use Rattle.board_model.proofs.NumberLemmas.{begins_bounded}

pub returns : goal.returns
returns c = begins_bounded
