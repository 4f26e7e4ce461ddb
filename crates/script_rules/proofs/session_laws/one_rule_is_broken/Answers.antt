use Rattle.script_rules.proofs.PairLemmas.{one_rule}
use Rattle.script_rules.proofs.session_laws.one_rule_is_broken.Goals as goal

pub returns : goal.returns
returns c = one_rule
