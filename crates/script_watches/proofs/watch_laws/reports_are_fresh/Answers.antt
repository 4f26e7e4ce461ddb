use Rattle.script_watches.proofs.WatchLaws.{fresh_law}
use Rattle.script_watches.proofs.watch_laws.reports_are_fresh.Goals as goal

pub returns : goal.returns
returns c = fresh_law
