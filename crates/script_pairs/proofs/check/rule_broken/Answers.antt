use Rattle.std.proofs.Common.{refl}
use Rattle.script_pairs.proofs.RuleLemmas.{none_is_right, some_is_broken}
use Rattle.script_pairs.proofs.check.rule_broken.Goals as goal

pub returns-clause-none : goal.returns-clause-none
returns-clause-none c = none_is_right c.args.asked.now c.args.right.now c.args.answer.now c.broken_rule_of.result c.broken_rule_of.ensures

pub returns-clause-some : goal.returns-clause-some
returns-clause-some c = some_is_broken c.args.asked.now c.args.right.now c.args.answer.now c.args.n c.broken_rule_of.result (c.if-not-is_answer.ensures.0 refl) c.broken_rule_of.ensures
