use Rattle.script_snapshots.proofs.TakingLaws.{fed_lawful_law}
use Rattle.script_snapshots.proofs.taking_laws.fed_sessions_are_lawful.Goals as goal

pub returns : goal.returns
returns c = fed_lawful_law
