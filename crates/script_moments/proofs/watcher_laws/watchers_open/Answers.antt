use Rattle.script_moments.proofs.WatcherLineLemmas.{watchers_open}
use Rattle.script_moments.proofs.watcher_laws.watchers_open.Goals as goal

pub returns : goal.returns
returns c = watchers_open
