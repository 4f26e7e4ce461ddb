use Rattle.script_rules.proofs.NamedLemmas.{broken_named}
use Rattle.script_rules.proofs.rule_laws.broken_rules_are_named.Goals as goal

pub returns : goal.returns
returns c = broken_named
