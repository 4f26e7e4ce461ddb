use Rattle.board_model.proofs.bound_laws.sessions_keep_numbers.Goals as goal
use Rattle.board_model.proofs.NumberLemmas.{session_numbers}

pub returns : goal.returns
returns c = session_numbers
