-- Rules that are broken, worked out by hand.
use Rattle.std.specs.Prelude.{◌≡◌, codes, Some, None}
use Rattle.board_model.specs.declared.line.Line.TheVariants as board_line
use Rattle.script_model.specs.declared.line.ScriptLine.{ScriptLine}
use Rattle.script_model.specs.declared.line.ScriptLine.TheVariants as line
use Rattle.script_rules.specs.declared.rule.Rule.TheVariants as rule
use Rattle.script_rules.specs.BrokenRules.{broken_rule}

-- `step a`
abbrev pub step_line : ScriptLine
step_line = line.Board (board_line.Step (codes "a"))

-- `words 1`
abbrev pub words_line : ScriptLine
words_line = line.Board (board_line.Words 1)

-- `drop a h`
abbrev pub drop_line : ScriptLine
drop_line = line.Board (board_line.Release (codes "a") (codes "h"))

-- each rule of an answer that differs from the right one
pub record WorkedRules : Type 0 where
  pub reason : broken_rule step_line (codes "refused idle") (codes "refused busy") ≡ Some rule.Reason
  pub refused : broken_rule step_line (codes "table = ok 1") (codes "refused idle") ≡ Some rule.Reason
  pub accepted : broken_rule step_line (codes "refused idle") (codes "gone") ≡ Some rule.Reason
  pub owed : broken_rule step_line (codes "write 1:3 9") (codes "write 1:2 9") ≡ Some rule.Owed
  pub written : broken_rule step_line (codes "write 1:3 9") (codes "write 1:3 8") ≡ Some rule.Owed
  pub form : broken_rule step_line (codes "table = ok 1") (codes "ok") ≡ Some rule.Owed
  pub id : broken_rule step_line (codes "set bits:ev 4") (codes "set bits:ev 5") ≡ Some rule.Owed
  pub dropped : broken_rule drop_line (codes "table = ok") (codes "table") ≡ Some rule.Owed
  pub told : broken_rule drop_line (codes "table = ok") (codes "table = ok 7") ≡ Some rule.Owed
  pub word : broken_rule step_line (codes "read 1:0 2") (codes "read 1:0 3") ≡ Some rule.Word
  pub read_first : broken_rule step_line (codes "read 1:0 2 = u64:9 gen 2") (codes "read 1:0 1 = u64:7 gen 1") ≡ Some rule.Word
  pub listed : broken_rule words_line (codes "words 1 0 7 0") (codes "words 1 0 8 0") ≡ Some rule.Word
  pub longer : broken_rule words_line (codes "words 1 0 7 0") (codes "words 1 0 7 0 0") ≡ Some rule.Word
  pub event : broken_rule step_line (codes "signal bits:ev yes") (codes "signal bits:ev no") ≡ Some rule.Event
  pub popped : broken_rule step_line (codes "pop queue:q none") (codes "pop queue:q 5") ≡ Some rule.Event
  pub swapped : broken_rule step_line (codes "swap bits:ev 0 1 = ids 0") (codes "swap bits:ev 0 2 = ids 1") ≡ Some rule.Event
  pub reply : broken_rule step_line (codes "table = ok 1") (codes "table = ok 2") ≡ Some rule.Reply
  pub pushed : broken_rule step_line (codes "push queue:q = ok") (codes "push queue:q = keys") ≡ Some rule.Reply
  pub early : broken_rule step_line (codes "read 1:0 1") (codes "read 1:0 1 = u64:7 gen 1") ≡ Some rule.Reply
  pub owed_before_word : broken_rule step_line (codes "read 1:0 2") (codes "read 1:2 3") ≡ Some rule.Owed
  pub owed_before_event : broken_rule step_line (codes "scan bits:ev 0 1") (codes "swap bits:ev 0 2") ≡ Some rule.Owed
  pub none : broken_rule step_line (codes "read 1:0 2 = u64:9 gen 2") (codes "read 1:0 2 = u64:9 gen 2") ≡ None
