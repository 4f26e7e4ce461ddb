use Rattle.script_watches.proofs.WatchLaws.{watched_law}
use Rattle.script_watches.proofs.watch_laws.watched_parties_have_watchers.Goals as goal

pub returns : goal.returns
returns c = watched_law
