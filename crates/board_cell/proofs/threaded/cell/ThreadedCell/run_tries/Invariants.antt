use Rattle.std.proofs.Common.{◌≡◌, ◌<◌, ◌+◌, ℕ, List, [], ◌++◌, length}
use Rattle.board_cell.specs.Passes.{ClimbsFrom, last_from}
use Rattle.board_cell.specs.Views.{reader_of, IsTrying}
use Rattle.board_cell.specs.declared.threaded.view.View.TheVariants.{Reader}
use Rattle.board_cell.proofs.threaded.cell.ThreadedCell.run_tries.Given as goal

abbrev pub decreases-tries : goal.decreases-tries
decreases-tries l = l.left

-- a try is open, and each one before it met a greater counter than its own
abbrev pub invariant-tries : goal.invariant-tries
invariant-tries l = let x = reader_of l.initial.seat.me.0 in let y = reader_of l.seat.me.0 in
    (l.seat.table_id ≡ l.initial.seat.table_id) × (l.seat.me.1 ≡ l.initial.seat.me.1) × (0 < l.left)
    × (l.seat.me.0 ≡ Reader y) × (y.notes ≡ x.notes) × (y.opened ≡ l.before) × (y.found ≡ []) × IsTrying l.initial.call.shape.words l.call y × (l.call.shape ≡ l.initial.call.shape)
    × (rest : List ℕ) × ClimbsFrom l.initial.before rest × (last_from l.initial.before rest ≡ l.before) × (length rest + l.left ≡ l.initial.left) × (y.loads ≡ x.loads ++ rest)
