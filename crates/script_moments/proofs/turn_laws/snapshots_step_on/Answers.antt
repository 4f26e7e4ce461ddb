use Rattle.script_moments.proofs.TurnLemmas.{snapshots_step}
use Rattle.script_moments.proofs.turn_laws.snapshots_step_on.Goals as goal

pub returns : goal.returns
returns c = snapshots_step
