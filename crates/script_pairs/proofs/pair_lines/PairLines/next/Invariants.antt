use Rattle.std.proofs.Common.{◌≡◌, ◌≤◌, ◌+◌, ◌-◌, [], length, true}
use Rattle.std.specs.Io.KnownBytes.{IsAtEnd, Keeps, prepend_known}
use Rattle.board_model.specs.Lines.{IsOneLine}
use Rattle.script_loop.specs.Reader.{TillEnd}
use Rattle.script_pairs.specs.PairLines.{has_ended, in_hand, to_come}
use Rattle.script_pairs.proofs.pair_lines.PairLines.next.Given as goal

abbrev pub invariant-look : goal.invariant-look
invariant-look g l = record {
  kept : Keeps (to_come l.fn.self (g.S.Source.left l.fn.source)) (prepend_known l.line.items (to_come l.self (g.S.Source.left l.source)));
  one : IsOneLine l.line.items;
  short : length l.line.items ≤ l.most;
  one_source : has_ended l.self ≡ true → IsAtEnd (g.S.Source.left l.source);
  none : has_ended l.self ≡ true → in_hand l.self ≡ [];
  same : g.S.Source.faults l.source ≡ g.S.Source.faults l.fn.source;
  unfailing : g.S.Source.never_fails l.fn.source → g.S.Source.never_fails l.source;
  before_end : TillEnd (has_ended l.fn.self) (g.S.Source.never_fails_before_end l.fn.source) → TillEnd (has_ended l.self) (g.S.Source.never_fails_before_end l.source);
}

abbrev pub decreases-look : goal.decreases-look
decreases-look g l = l.most + 1 - length l.line.items
