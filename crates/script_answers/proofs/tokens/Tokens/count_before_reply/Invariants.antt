use Rattle.std.proofs.Common.{◌≡◌, ◌+◌, ◌≤◌, length}
use Rattle.script_rules.specs.AnswerGroups.{before_reply}
use Rattle.script_answers.proofs.tokens.Tokens.count_before_reply.Given as goal

abbrev pub invariant-loop-count : goal.invariant-loop-count
invariant-loop-count l = record {
  counted : l.count + length (before_reply l.left) ≡ length (before_reply l.self);
  few : l.count + length l.left ≤ l.most;
}
