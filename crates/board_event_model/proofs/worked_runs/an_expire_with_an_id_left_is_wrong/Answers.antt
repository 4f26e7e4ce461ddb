use Rattle.board_event_model.proofs.WorkedRun.{between_runs, early_is_wrong, missed_is_wrong}
use Rattle.board_event_model.proofs.worked_runs.an_expire_with_an_id_left_is_wrong.Goals as goal

pub returns : goal.returns
returns c = record { missed = missed_is_wrong; between = between_runs; early = early_is_wrong }
