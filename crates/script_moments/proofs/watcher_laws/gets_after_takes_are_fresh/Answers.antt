use Rattle.script_moments.proofs.ReportLemmas.{gets_fresh}
use Rattle.script_moments.proofs.watcher_laws.gets_after_takes_are_fresh.Goals as goal

pub returns : goal.returns
returns c = gets_fresh
