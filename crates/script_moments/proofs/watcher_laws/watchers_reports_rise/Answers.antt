use Rattle.script_moments.proofs.ReportLemmas.{watchers_rise}
use Rattle.script_moments.proofs.watcher_laws.watchers_reports_rise.Goals as goal

pub returns : goal.returns
returns c = watchers_rise
