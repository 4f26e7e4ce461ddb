use Rattle.std.proofs.Common.{rules}
use Rattle.script_answers.proofs.AnswerLemmas.{same_breaks_none}
use Rattle.script_answers.proofs.broken_rule.broken_rule_of.Goals as goal

pub returns-then-eq : goal.returns-then-eq
returns-then-eq c = same_breaks_none c.args.line.now c.args.right.now c.args.text.now (search rules)
