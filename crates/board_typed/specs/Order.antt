-- The cells of a domain that is reached by typed calls alone: each entry has one, and the write end of it where no write handle has that. That two entries have two cells isn't said.
use Rattle.std.specs.Prelude.{◌≡◌, ◌≤◌, ℕ, Bool, false, List, Option, Some, None, IfSome, is_some}
use Rattle.std.specs.List.{list_any}
use Rattle.board_layout.specs.Words.{IsWordCount}
use Rattle.board_cell.specs.Passes.{CellSeen}
use Rattle.board_model.specs.declared.tables.Board.{Board}
use Rattle.board_model.specs.declared.tables.Entry.{Entry}
use Rattle.board_model.specs.Tables.{board_at, entry_in, is_write_handle}
use Rattle.board_service.specs.Domain.{cells_of}
use Rattle.board_cells.specs.Cells.{EndSeen, PlaceSeen}
use Rattle.board_handles.specs.BoardEnds.{Core, cell_in, parked_in}

-- the cell is there, and has as many words as a value of this many bytes takes
abbrev pub HoldsValues : ℕ → Option CellSeen → Type 0
HoldsValues size None = ⊥
HoldsValues size (Some c) = IsWordCount size c.width

-- where there is an entry, its cell holds values of its type
abbrev pub FitsEntry : Option Entry → Option CellSeen → Type 0
FitsEntry None c = Unit {0}
FitsEntry (Some e) c = HoldsValues e.value.size c

-- where an end is parked, it is of this cell
abbrev pub IsOwn : Option EndSeen → Option CellSeen → Type 0
IsOwn end c = IfSome end (λ e. c ≡ Some e.cell)

-- a board's keys have at most 64 bytes
abbrev pub HasShortKeys : Option Board → Type 0
HasShortKeys board = IfSome board (λ b. b.key.size ≤ 64)

-- of one board and its cells, where a test tells whether an entry has a write handle: its keys are short; each entry has a cell that holds its values; an end that is parked is of its entry's cell; and one is parked wherever there is no write handle
pub record AreInOrder (board : Option Board) (places : Option (List PlaceSeen)) (is_written : ℕ → Bool) : Type 0 where
  pub keys : HasShortKeys board
  pub cells : (i : ℕ) → FitsEntry (entry_in board i) (cell_in places i)
  pub own : (i : ℕ) → IsOwn (parked_in places i) (cell_in places i)
  pub there : (i : ℕ) → is_written i ≡ false → is_some (parked_in places i) ≡ is_some (cell_in places i)

-- a write handle of the entry stands
abbrev pub is_written : Core → ℕ → ℕ → Bool
is_written d board i = list_any (is_write_handle board i) d.tables.things

-- the same of each board of a domain
abbrev pub IsInOrder : Core → Type 0
IsInOrder d = (board : ℕ) → AreInOrder (board_at d.tables board) (cells_of d board) (is_written d board)
