use Rattle.script_moments.proofs.LineLemmas.{go_on}
use Rattle.script_moments.proofs.snapshot_laws.snapshots_go_on.Goals as goal

pub returns : goal.returns
returns c = go_on
