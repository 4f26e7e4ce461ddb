use Rattle.board_model.proofs.count_laws.nothing_is_passed_at_first.Goals as goal
use Rattle.board_model.proofs.PassLemmas.{nothing_at_first}

pub returns : goal.returns
returns c = nothing_at_first
