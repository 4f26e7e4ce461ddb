use Rattle.board_event_model.proofs.WorkedRun.{all_runs, expire_runs, queue_all_runs, queue_runs}
use Rattle.board_event_model.proofs.worked_runs.a_timed_wait_may_expire.Goals as goal

pub returns : goal.returns
returns c = record { one = expire_runs; all = all_runs; queue = queue_runs; queue_all = queue_all_runs }
