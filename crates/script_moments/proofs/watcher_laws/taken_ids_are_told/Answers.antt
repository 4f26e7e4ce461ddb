use Rattle.script_moments.proofs.TakeLemmas.{ids_are_told}
use Rattle.script_moments.proofs.watcher_laws.taken_ids_are_told.Goals as goal

pub returns : goal.returns
returns c = ids_are_told
