use Rattle.board_event_model.proofs.WorkedRun.{all_is_wrong, blocking_is_wrong, popped_is_wrong, signal_is_wrong, taken_is_wrong, timed_is_wrong}
use Rattle.board_event_model.proofs.worked_runs.an_early_expire_is_wrong.Goals as goal

pub returns : goal.returns
returns c = record { timed = timed_is_wrong; signal = signal_is_wrong; blocking = blocking_is_wrong; all = all_is_wrong; taken = taken_is_wrong; popped = popped_is_wrong }
