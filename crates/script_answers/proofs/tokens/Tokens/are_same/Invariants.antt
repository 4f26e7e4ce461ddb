use Rattle.std.proofs.Common.{◌≡◌, length}
use Rattle.script_rules.specs.AnswerGroups.{same_tokens}
use Rattle.script_answers.proofs.tokens.Tokens.are_same.Given as goal

abbrev pub invariant-loop-token : goal.invariant-loop-token
invariant-loop-token l = same_tokens l.left l.others ≡ same_tokens l.self l.other

abbrev pub decreases-loop-token : goal.decreases-loop-token
decreases-loop-token l = length l.left
