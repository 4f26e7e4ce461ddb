use Rattle.script_moments.proofs.CountLemmas.{are_short}
use Rattle.script_moments.proofs.snapshot_laws.snapshots_are_short.Goals as goal

pub returns : goal.returns
returns c = are_short
