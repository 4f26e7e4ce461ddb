use Rattle.std.proofs.Common.{◌≡◌, length}
use Rattle.std.specs.List.{list_all}
use Rattle.script_answers.specs.AnswerReading.{is_item}
use Rattle.script_answers.proofs.tokens.Tokens.are_all.Given as goal

abbrev pub invariant-loop-token : goal.invariant-loop-token
invariant-loop-token l = list_all (is_item l.item) l.self ≡ list_all (is_item l.item) l.fn.self

abbrev pub decreases-loop-token : goal.decreases-loop-token
decreases-loop-token l = length l.self
