use Rattle.std.proofs.Common.{length}
use Rattle.script_parse.proofs.Digits.{IsFewRead}
use Rattle.script_parse.proofs.atoms.few_digits_value.Given as goal

abbrev pub invariant-loop-left : goal.invariant-loop-left
invariant-loop-left l = IsFewRead l.n l.left l.text

abbrev pub decreases-loop-left : goal.decreases-loop-left
decreases-loop-left l = length l.left
