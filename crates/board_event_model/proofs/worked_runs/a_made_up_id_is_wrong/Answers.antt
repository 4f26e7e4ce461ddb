use Rattle.board_event_model.proofs.WorkedRun.{id_is_wrong}
use Rattle.board_event_model.proofs.worked_runs.a_made_up_id_is_wrong.Goals as goal

pub returns : goal.returns
returns c = id_is_wrong
