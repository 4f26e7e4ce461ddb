use Rattle.std.proofs.Common.{◌≡◌, length}
use Rattle.board_base_tests.proofs.cell.shared.read_all.Given as goal

abbrev pub invariant-loop : goal.invariant-loop
invariant-loop l = (l.reader.cell ≡ l.initial.reader.cell) × (length l.out.items ≡ length l.initial.out.items)
