use Rattle.script_moments.proofs.RoundLemmas.{of_one_moment}
use Rattle.script_moments.proofs.snapshot_laws.snapshots_are_of_one_moment.Goals as goal

pub returns : goal.returns
returns c = of_one_moment
