use Rattle.board_model.proofs.session_laws.generations_never_fall.Goals as goal
use Rattle.board_model.proofs.SessionLaws.{rising}

pub returns : goal.returns
returns c = rising
