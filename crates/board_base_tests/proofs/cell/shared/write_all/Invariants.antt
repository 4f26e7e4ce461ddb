use Rattle.std.proofs.Common.{◌≡◌, ◌+◌, length}
use Rattle.board_base_tests.proofs.cell.shared.write_all.Given as goal

abbrev pub invariant-loop-i : goal.invariant-loop-i
invariant-loop-i l = (l.writer.cell ≡ l.initial.writer.cell) × (length l.words.items ≡ length l.initial.words.items) × (length l.writer.published ≡ length l.initial.writer.published + l.i)
