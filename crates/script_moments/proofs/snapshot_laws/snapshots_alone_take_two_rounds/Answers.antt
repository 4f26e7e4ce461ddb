use Rattle.script_moments.proofs.CountLemmas.{alone_two}
use Rattle.script_moments.proofs.snapshot_laws.snapshots_alone_take_two_rounds.Goals as goal

pub returns : goal.returns
returns c = alone_two
