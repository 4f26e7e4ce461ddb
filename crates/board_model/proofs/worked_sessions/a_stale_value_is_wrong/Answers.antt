use Rattle.board_model.proofs.WorkedLemmas.{stale_wrong}
use Rattle.board_model.proofs.worked_sessions.a_stale_value_is_wrong.Goals as goal

pub returns : goal.returns
returns c = stale_wrong
