use Rattle.board_model.proofs.session_laws.lists_only_grow.Goals as goal
use Rattle.board_model.proofs.SessionLaws.{growing}

pub returns : goal.returns
returns c = growing
