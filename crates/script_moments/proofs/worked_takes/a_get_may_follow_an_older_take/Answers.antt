use Rattle.script_moments.proofs.WorkedTake.{after_older}
use Rattle.script_moments.proofs.worked_takes.a_get_may_follow_an_older_take.Goals as goal

pub returns : goal.returns
returns c = after_older
