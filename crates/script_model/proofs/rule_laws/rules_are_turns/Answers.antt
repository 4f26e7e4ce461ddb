use Rattle.script_model.proofs.RuleLemmas.{rules_turns}
use Rattle.script_model.proofs.rule_laws.rules_are_turns.Goals as goal

pub returns : goal.returns
returns c = rules_turns
