use Rattle.board_model.proofs.session_laws.one_generation_one_value.Goals as goal
use Rattle.board_model.proofs.SessionLaws.{same_values}

pub returns : goal.returns
returns c = same_values
