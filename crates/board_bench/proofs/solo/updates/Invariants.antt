use Rattle.std.proofs.Common.{◌≡◌, ◌+◌, ◌++◌, length}
use Rattle.board_bench.specs.Watchers.{AreWide, in_turn}
use Rattle.board_bench.proofs.solo.updates.Given as goal

abbrev pub invariant-loop-i : goal.invariant-loop-i
invariant-loop-i l = (l.writer.cell ≡ l.initial.writer.cell) × (length l.writer.published ≡ length l.initial.writer.published + l.i) × (AreWide l.fn.cell.width l.initial.writer.published → AreWide l.fn.cell.width l.writer.published) × (l.writer.published ≡ l.initial.writer.published ++ in_turn l.fn.one.items l.fn.two.items l.i)
