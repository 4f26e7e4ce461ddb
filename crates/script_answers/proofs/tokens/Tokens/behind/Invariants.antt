use Rattle.std.proofs.Common.{◌≡◌, drop}
use Rattle.script_answers.proofs.tokens.Tokens.behind.Given as goal

abbrev pub invariant-loop-more : goal.invariant-loop-more
invariant-loop-more l = drop l.more l.left ≡ drop l.count l.self

abbrev pub decreases-loop-more : goal.decreases-loop-more
decreases-loop-more l = l.more
