use Rattle.script_moments.proofs.WatcherLineLemmas.{watchers_go_on}
use Rattle.script_moments.proofs.watcher_laws.watchers_go_on.Goals as goal

pub returns : goal.returns
returns c = watchers_go_on
