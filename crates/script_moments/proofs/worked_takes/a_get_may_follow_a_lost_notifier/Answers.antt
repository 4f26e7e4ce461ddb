use Rattle.script_moments.proofs.WorkedTake.{after_lost}
use Rattle.script_moments.proofs.worked_takes.a_get_may_follow_a_lost_notifier.Goals as goal

pub returns : goal.returns
returns c = after_lost
