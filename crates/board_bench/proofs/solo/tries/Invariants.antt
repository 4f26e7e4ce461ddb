use Rattle.std.proofs.Common.{◌≡◌, ◌+◌, ◌*◌, ◌≤◌, length}
use Rattle.board_bench.specs.Watchers.{AreCopiedWide}
use Rattle.board_bench.proofs.solo.tries.Given as goal

abbrev pub invariant-loop : goal.invariant-loop
invariant-loop l = (l.reader.cell ≡ l.initial.reader.cell) × (length l.out.items ≡ length l.initial.out.items) × (length l.reader.notes ≡ length l.initial.reader.notes + l.counter) × (length l.reader.loads ≡ length l.initial.reader.loads + 2 * l.counter) × (AreCopiedWide l.fn.cell.width l.initial.reader.notes → AreCopiedWide l.fn.cell.width l.reader.notes) × (l.initial.reader.reached ≤ l.reader.reached)
