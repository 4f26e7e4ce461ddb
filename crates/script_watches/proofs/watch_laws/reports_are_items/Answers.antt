use Rattle.script_watches.proofs.WatchLaws.{items_law}
use Rattle.script_watches.proofs.watch_laws.reports_are_items.Goals as goal

pub returns : goal.returns
returns c = items_law
