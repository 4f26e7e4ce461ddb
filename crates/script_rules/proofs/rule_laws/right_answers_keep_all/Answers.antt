use Rattle.script_rules.proofs.NamedLemmas.{right_keeps}
use Rattle.script_rules.proofs.rule_laws.right_answers_keep_all.Goals as goal

pub returns : goal.returns
returns c = right_keeps
