use Rattle.std.proofs.Common.{◌≡◌, ◌+◌, ◌++◌, length, All}
use Rattle.board_cell.specs.Passes.{ReaderSeen}
use Rattle.board_bench.specs.Watchers.{IsOf, gets_of, passes_back}
use Rattle.board_bench.proofs.shared.passes_of.Given as goal

abbrev pub decreases-watchers : goal.decreases-watchers
decreases-watchers l = length l.watchers.items

abbrev pub invariant-watchers : goal.invariant-watchers
invariant-watchers l = All (IsOf l.fn.cell) l.watchers.items × All (λ (p : ReaderSeen). p.cell ≡ l.fn.cell.cell) l.passes.items × (length l.passes.items + length l.watchers.items ≡ length l.fn.watchers.items) × (l.gets ≡ gets_of l.passes.items) × (l.passes.items ++ passes_back l.watchers.items ≡ passes_back l.fn.watchers.items)
