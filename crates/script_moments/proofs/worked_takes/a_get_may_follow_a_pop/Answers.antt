use Rattle.script_moments.proofs.WorkedTake.{after_pop}
use Rattle.script_moments.proofs.worked_takes.a_get_may_follow_a_pop.Goals as goal

pub returns : goal.returns
returns c = after_pop
