-- The ends of the cells of a domain's boards: which are there, and the tables after one was taken or parked.
use Rattle.std.specs.Prelude.{ℕ, List, Option, Some, None}
use Rattle.board_cell.specs.Passes.{CellSeen}
use Rattle.board_service.specs.Domain.{Domain, cells_of, with_cells}
use Rattle.board_cells.specs.Cells.{PlaceSeen, EndSeen, cell_at, parked_at, without_end, with_end}

-- the tables, with cells as they are seen
abbrev pub Core : Type 0
Core = Domain (List PlaceSeen)

-- the cell of an entry of a board, where that is there
abbrev pub cell_in : Option (List PlaceSeen) → ℕ → Option CellSeen
cell_in None entry = None
cell_in (Some places) entry = cell_at places entry

-- the cell of an entry, where the board and the entry are there
abbrev pub cell_of : Core → ℕ → ℕ → Option CellSeen
cell_of d board entry = cell_in (cells_of d board) entry

-- the write end that is parked at an entry of a board, where that is there
abbrev pub parked_in : Option (List PlaceSeen) → ℕ → Option EndSeen
parked_in None entry = None
parked_in (Some places) entry = parked_at places entry

-- the write end that is parked at an entry, where the board and the entry are there
abbrev pub parked_of : Core → ℕ → ℕ → Option EndSeen
parked_of d board entry = parked_in (cells_of d board) entry

-- a write end is taken from a board's cells, where they are there
abbrev pub taken_from : Core → ℕ → Option (List PlaceSeen) → ℕ → Core
taken_from d board None entry = d
taken_from d board (Some places) entry = with_cells d board (without_end places entry)

-- no end is parked at the board's entry any more
abbrev pub taken : Core → ℕ → ℕ → Core
taken d board entry = taken_from d board (cells_of d board) entry

-- a write end is parked in a board's cells, where they are there
abbrev pub parked_to : Core → ℕ → Option (List PlaceSeen) → ℕ → EndSeen → Core
parked_to d board None entry e = d
parked_to d board (Some places) entry e = with_cells d board (with_end places entry e)

-- the end is parked at the board's entry, where that is there and free
abbrev pub parked : Core → ℕ → ℕ → EndSeen → Core
parked d board entry e = parked_to d board (cells_of d board) entry e
