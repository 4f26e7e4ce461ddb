use Rattle.board_event_model.proofs.WorkedRun.{post_is_wrong}
use Rattle.board_event_model.proofs.worked_runs.a_post_before_the_set_is_wrong.Goals as goal

pub returns : goal.returns
returns c = post_is_wrong
