use Rattle.script_snapshots.proofs.TakingLaws.{written_law}
use Rattle.script_snapshots.proofs.taking_laws.written_snapshots_are_of_one_moment.Goals as goal

pub returns : goal.returns
returns c = written_law
