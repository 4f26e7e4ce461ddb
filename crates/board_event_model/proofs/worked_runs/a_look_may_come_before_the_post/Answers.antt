use Rattle.board_event_model.proofs.WorkedRun.{look_runs}
use Rattle.board_event_model.proofs.worked_runs.a_look_may_come_before_the_post.Goals as goal

pub returns : goal.returns
returns c = look_runs
