use Rattle.std.proofs.Common.{◌≡◌, ◌+◌, ◌++◌, length}
use Rattle.board_bench.specs.Watchers.{AreWide, numbered}
use Rattle.board_bench.proofs.shared.write.Given as goal

abbrev pub invariant-loop-i : goal.invariant-loop-i
invariant-loop-i l = (l.writer.cell ≡ l.initial.writer.cell) × (length l.words.items ≡ length l.initial.words.items) × (length l.writer.published ≡ length l.initial.writer.published + l.i) × (AreWide l.fn.cell.width l.initial.writer.published → AreWide l.fn.cell.width l.writer.published) × (l.writer.published ≡ l.initial.writer.published ++ numbered l.fn.cell.width l.i)
