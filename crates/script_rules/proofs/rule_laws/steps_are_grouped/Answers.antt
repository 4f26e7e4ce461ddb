use Rattle.script_rules.proofs.StepGroupLemmas.{steps_grouped}
use Rattle.script_rules.proofs.rule_laws.steps_are_grouped.Goals as goal

pub returns : goal.returns
returns c = steps_grouped
