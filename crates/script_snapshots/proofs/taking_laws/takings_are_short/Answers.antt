use Rattle.script_snapshots.proofs.TakingLaws.{takings_short}
use Rattle.script_snapshots.proofs.taking_laws.takings_are_short.Goals as goal

pub returns : goal.returns
returns c = takings_short
