use Rattle.script_moments.proofs.ReportLemmas.{reports_rise}
use Rattle.script_moments.proofs.watcher_laws.reports_rise.Goals as goal

pub returns : goal.returns
returns c = reports_rise
