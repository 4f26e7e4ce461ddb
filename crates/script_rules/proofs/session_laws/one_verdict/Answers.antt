use Rattle.script_rules.proofs.VerdictLemmas.{verdict}
use Rattle.script_rules.proofs.session_laws.one_verdict.Goals as goal

pub returns : goal.returns
returns c = verdict
