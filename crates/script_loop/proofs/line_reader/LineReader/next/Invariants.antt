use Rattle.std.proofs.Common.{◌≡◌, ◌≤◌, ◌-◌, ◌+◌, false, length, take, cond, IsTrue}
use Rattle.std.specs.Io.KnownBytes.{IsAtEnd, Keeps, prepend_known}
use Rattle.board_model.specs.Lines.{IsOneLine}
use Rattle.script_loop.specs.Reader.{NeedsBytes, TillEnd, source_ended, in_hand}
use Rattle.script_loop.proofs.line_reader.LineReader.next.Given as goal

abbrev pub invariant-loop-at : goal.invariant-loop-at
invariant-loop-at g l = record {
  kept : Keeps (prepend_known (in_hand l.fn.self) (g.S.Source.left l.fn.source)) (prepend_known (in_hand l.self) (g.S.Source.left l.source));
  searched : l.searched ≤ length (in_hand l.self);
  none_before : IsOneLine (take l.searched (in_hand l.self));
  one_source : IsTrue (source_ended l.self) → IsAtEnd (g.S.Source.left l.source);
  unended : source_ended l.self ≡ false → source_ended l.fn.self ≡ false;
  needed : NeedsBytes l.self → NeedsBytes l.fn.self;
  unread : (NeedsBytes l.fn.self → ⊥) → l.source ≡ l.fn.source;
  same : g.S.Source.faults l.source ≡ g.S.Source.faults l.fn.source;
  unfailing : g.S.Source.never_fails l.fn.source → g.S.Source.never_fails l.source;
  before_end : TillEnd (source_ended l.fn.self) (g.S.Source.never_fails_before_end l.fn.source) → TillEnd (source_ended l.self) (g.S.Source.never_fails_before_end l.source);
}

abbrev pub decreases-loop-at : goal.decreases-loop-at
decreases-loop-at g l = 4097 - length (in_hand l.self) + cond (source_ended l.self) 0 1
