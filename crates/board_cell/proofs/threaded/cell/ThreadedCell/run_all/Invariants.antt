use Rattle.std.proofs.Common.{◌≡◌, ℕ, List, [], ◌++◌}
use Rattle.board_cell.specs.Passes.{ClimbsFrom, last_from}
use Rattle.board_cell.specs.Views.{reader_of, IsTrying}
use Rattle.board_cell.specs.declared.threaded.view.View.TheVariants.{Reader}
use Rattle.board_cell.proofs.threaded.cell.ThreadedCell.run_all.Given as goal

-- a try is open, and each one before it met a greater counter than its own
abbrev pub invariant-tries : goal.invariant-tries
invariant-tries g l = let x = reader_of l.initial.seat.me.0 in let y = reader_of l.seat.me.0 in
    (l.seat.table_id ≡ l.initial.seat.table_id) × (l.seat.me.1 ≡ l.initial.seat.me.1)
    × (l.seat.me.0 ≡ Reader y) × (y.notes ≡ x.notes) × (y.opened ≡ l.before) × (y.found ≡ []) × IsTrying l.initial.call.shape.words l.call y × (l.call.shape ≡ l.initial.call.shape)
    × (rest : List ℕ) × ClimbsFrom l.initial.before rest × (last_from l.initial.before rest ≡ l.before) × (y.loads ≡ x.loads ++ rest)
