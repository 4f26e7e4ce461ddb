use Rattle.board_model.proofs.session_laws.no_get_is_stale.Goals as goal
use Rattle.board_model.proofs.SessionLaws.{later}

pub returns : goal.returns
returns c = later
