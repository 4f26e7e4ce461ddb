use Rattle.std.proofs.Common.{ℕ, ◌≡◌, false, ◌++◌, map}
use Rattle.std.specs.Prelude.{drop}
use Rattle.board_cell_model.specs.OwedAccesses.{is_finished, reading_from}
use Rattle.board_cell.specs.Calls.{on_board}
use Rattle.board_cell.specs.Runs.{owed_reads}
use Rattle.board_cell.proofs.runs.run_get.Given as goal

-- the call goes on, and with the rest of the words it comes to where it comes with all of them
abbrev pub invariant-loop-word : goal.invariant-loop-word
invariant-loop-word l = (is_finished l.call.reading ≡ false) × (l.call.shape ≡ l.fn.call.shape) × (reading_from l.fn.call.shape.words l.call.reading (drop l.word-index l.words) ≡ reading_from l.fn.call.shape.words l.fn.call.reading l.words) × ((board : ℕ) → map (on_board board) l.accesses.items ++ owed_reads board l.fn.call.shape l.call.reading (drop l.word-index l.words) ≡ map (on_board board) l.fn.accesses.items ++ owed_reads board l.fn.call.shape l.fn.call.reading l.words)
