use Rattle.script_moments.proofs.WatchLemmas.{report_items}
use Rattle.script_moments.proofs.watcher_laws.watchers_report_items.Goals as goal

pub returns : goal.returns
returns c = report_items
