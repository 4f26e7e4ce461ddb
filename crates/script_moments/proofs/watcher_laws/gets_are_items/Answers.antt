use Rattle.script_moments.proofs.ReportLemmas.{gets_items}
use Rattle.script_moments.proofs.watcher_laws.gets_are_items.Goals as goal

pub returns : goal.returns
returns c = gets_items
