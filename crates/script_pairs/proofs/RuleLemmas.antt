-- What the rule that an answer breaks says of it.
use Rattle.std.proofs.Common.{◌≡◌, ℕ, List, sym, inr, Option, Some, None, IfNone, IfSome}
use Rattle.script_model.specs.declared.line.ScriptLine.{ScriptLine}
use Rattle.script_rules.specs.declared.rule.Rule.{Rule}
use Rattle.script_rules.specs.BrokenRules.{broken_rule}
use Rattle.script_rules.specs.PrintedAnswers.{SpellsAnswer}
use Rattle.script_rules.proofs.GroupLemmas.{none_same}
use Rattle.script_pairs.specs.Checks.{IsBroken}

-- one that breaks none is the right one
pub none_is_right : (l : ScriptLine) (right text : List ℕ) (o : Option Rule) → o ≡ broken_rule l right text → IfNone o (right ≡ text)
none_is_right l right text None e = none_same l right text (sym e)
none_is_right l right text (Some r) e = tt

-- another that was read differs
pub some_is_broken : (l : ScriptLine) (right text : List ℕ) (n : ℕ) (o : Option Rule) → SpellsAnswer n text → o ≡ broken_rule l right text → IfSome o (IsBroken l right n text)
some_is_broken l right text n None k e = tt
some_is_broken l right text n (Some r) k e = inr (k, sym e)
