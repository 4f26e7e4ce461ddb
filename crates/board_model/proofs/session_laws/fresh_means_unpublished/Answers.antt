use Rattle.board_model.proofs.session_laws.fresh_means_unpublished.Goals as goal
use Rattle.board_model.proofs.SessionLaws.{still}

pub returns : goal.returns
returns c = still
