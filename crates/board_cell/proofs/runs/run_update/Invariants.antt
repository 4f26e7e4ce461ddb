use Rattle.std.proofs.Common.{ℕ, ◌≡◌, ◌≤◌, ◌+◌, ◌-◌, ◌++◌, length, map}
use Rattle.board_cell.specs.Calls.{on_board}
use Rattle.board_cell.specs.Runs.{owed_writes}
use Rattle.board_cell.proofs.runs.run_update.Given as goal

-- what was written and what is still owed is what was owed
abbrev pub invariant-loop-call : goal.invariant-loop-call
invariant-loop-call l = (l.call ≡ record l.fn.call { written = l.call.written }) × (l.call.written ≤ length l.fn.call.words) × ((board : ℕ) → map (on_board board) l.accesses.items ++ owed_writes board l.fn.call.shape l.fn.call.generation l.fn.call.words l.call.written ≡ map (on_board board) l.fn.accesses.items ++ owed_writes board l.fn.call.shape l.fn.call.generation l.fn.call.words l.fn.call.written)

abbrev pub decreases-loop-call : goal.decreases-loop-call
decreases-loop-call l = length l.call.words + 1 - l.call.written
