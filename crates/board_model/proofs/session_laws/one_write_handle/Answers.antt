use Rattle.board_model.proofs.session_laws.one_write_handle.Goals as goal
use Rattle.board_model.proofs.SessionLaws.{one_handle}

pub returns : goal.returns
returns c = one_handle
