use Rattle.script_moments.proofs.TurnLemmas.{watchers_step}
use Rattle.script_moments.proofs.turn_laws.watchers_step_on.Goals as goal

pub returns : goal.returns
returns c = watchers_step
