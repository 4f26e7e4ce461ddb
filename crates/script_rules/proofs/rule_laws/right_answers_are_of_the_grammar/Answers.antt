use Rattle.script_rules.proofs.FormLemmas.{right_of_grammar}
use Rattle.script_rules.proofs.rule_laws.right_answers_are_of_the_grammar.Goals as goal

pub returns : goal.returns
returns c = right_of_grammar
