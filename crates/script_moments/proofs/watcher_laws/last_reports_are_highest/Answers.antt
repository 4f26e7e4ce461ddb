use Rattle.script_moments.proofs.ReportLemmas.{last_highest}
use Rattle.script_moments.proofs.watcher_laws.last_reports_are_highest.Goals as goal

pub returns : goal.returns
returns c = last_highest
