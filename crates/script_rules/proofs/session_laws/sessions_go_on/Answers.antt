use Rattle.script_rules.proofs.VerdictLemmas.{sessions_go_on}
use Rattle.script_rules.proofs.session_laws.sessions_go_on.Goals as goal

pub returns : goal.returns
returns c = sessions_go_on
