use Rattle.script_moments.proofs.ReportLemmas.{last_fresh}
use Rattle.script_moments.proofs.watcher_laws.last_reports_are_fresh.Goals as goal

pub returns : goal.returns
returns c = last_fresh
