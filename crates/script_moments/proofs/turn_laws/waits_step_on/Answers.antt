use Rattle.script_moments.proofs.WaitLemmas.{waits_step}
use Rattle.script_moments.proofs.turn_laws.waits_step_on.Goals as goal

pub returns : goal.returns
returns c = waits_step
