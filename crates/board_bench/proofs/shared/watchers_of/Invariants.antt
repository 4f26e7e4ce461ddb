use Rattle.std.proofs.Common.{◌≡◌, length, All}
use Rattle.board_bench.specs.Watchers.{IsOf}
use Rattle.board_bench.proofs.shared.watchers_of.Given as goal

abbrev pub invariant-loop : goal.invariant-loop
invariant-loop l = (l.first.cell ≡ l.initial.first.cell) × All (IsOf l.fn.cell) l.watchers.items × (length l.watchers.items ≡ l.counter)
