use Rattle.script_watches.proofs.WorkedWatch.{a_watch}
use Rattle.script_watches.proofs.worked_watches.a_watch_may_report.Goals as goal

pub returns : goal.returns
returns c = a_watch
