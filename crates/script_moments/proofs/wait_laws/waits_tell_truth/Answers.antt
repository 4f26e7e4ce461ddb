use Rattle.script_moments.proofs.ToldLemmas.{tell_truth}
use Rattle.script_moments.proofs.wait_laws.waits_tell_truth.Goals as goal

pub returns : goal.returns
returns c = tell_truth c.printed_steps_are_taken.ensures c.replies_are_true.ensures c.expiries_are_true.ensures
