use Rattle.script_rules.proofs.RightPrintedLemmas.{right_printed}
use Rattle.script_rules.proofs.rule_laws.right_answers_are_printed.Goals as goal

pub returns : goal.returns
returns c = right_printed
