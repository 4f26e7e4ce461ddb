use Rattle.script_watches.proofs.WatchLaws.{highest_law}
use Rattle.script_watches.proofs.watch_laws.no_report_is_above_the_last.Goals as goal

pub returns : goal.returns
returns c = highest_law
