use Rattle.script_moments.proofs.WatchLemmas.{fresh}
use Rattle.script_moments.proofs.watcher_laws.watchers_are_fresh.Goals as goal

pub returns : goal.returns
returns c = fresh
