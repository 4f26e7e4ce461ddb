use Rattle.script_rules.proofs.ReasonLemmas.{reasons_judged}
use Rattle.script_rules.proofs.rule_laws.reasons_are_judged.Goals as goal

pub returns : goal.returns
returns c = reasons_judged
