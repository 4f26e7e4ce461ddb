-- What callers see of handles, loans and ports.
use Rattle.std.specs.Prelude.{◌≡◌, ℕ, ◌+◌, ◌^◌, ◌<◌, List, [], ◌∷◌, ◌++◌, length, map, slice_set, Option, Some}
use Rattle.atomic_table.specs.Seated.{TableId}
use Rattle.board_cell.specs.Passes.{CellSeen, ReaderSeen, ReceiptSeen, Gets, GetsWithin}
use Rattle.board_service.specs.declared.made.Found.{Found}
use Rattle.board_cells.specs.Cells.{EndSeen}

-- a value that was read, and its generation
pub record ValueSeen (V : Type 0) : Type 0 where
  pub value : V
  pub generation : ℕ

-- a read handle: its thing and entry as the tables told them, its cell, and what its pass knows
pub record ReadSeen : Type 0 where
  pub found : Found
  pub cell : CellSeen
  pub pass : ReaderSeen

-- a write handle: its thing and entry as the tables told them, and the write end that it has
pub record WriteSeen : Type 0 where
  pub found : Found
  pub held : EndSeen

-- a loan: its handle, and the words that were written in it
pub record LoanSeen : Type 0 where
  pub handle : WriteSeen
  pub words : List (Option ℕ)

-- ---- what is true of a handle

-- the pass is of the cell, whose values have this many words, as many as there is room for
abbrev pub IsEndOf : CellSeen → TableId → ℕ → ℕ → Type 0
IsEndOf cell own room width = (own ≡ cell.cell) × (room ≡ cell.width) × (cell.width ≡ width)

-- a read handle's pass is of its cell, whose values have this many words
abbrev pub IsOfCell : ReadSeen → ℕ → Type 0
IsOfCell h width = (h.pass.cell ≡ h.cell.cell) × (h.cell.width ≡ width)

-- ---- reads

-- a get was accepted, whose words are those of this value
abbrev pub GetsValue : {V : Type 0} → (List ℕ → V) → ValueSeen V → ReaderSeen → ReaderSeen → Type 0
GetsValue value_of v old new = (words : List ℕ) × Gets v.generation words old new × (v.value ≡ value_of words)

-- the same in at most this many tries
abbrev pub GetsValueWithin : {V : Type 0} → ℕ → (List ℕ → V) → ValueSeen V → ReaderSeen → ReaderSeen → Type 0
GetsValueWithin tries value_of v old new = (words : List ℕ) × GetsWithin tries v.generation words old new × (v.value ≡ value_of words)

-- ---- publications

-- one more value can be counted
abbrev pub HasRoom : WriteSeen → Type 0
HasRoom h = length h.held.published + 1 < 2 ^ 64

-- the same handle after one more publication
abbrev pub publishing : WriteSeen → List ℕ → WriteSeen
publishing h words = record { found = h.found; held = record { cell = h.held.cell; published = h.held.published ++ words ∷ [] } }

-- the receipt of the last publication
abbrev pub last_receipt : WriteSeen → ReceiptSeen
last_receipt h = record { cell = h.held.cell.cell; generation = length h.held.published }

-- the word at this index was written
abbrev pub with_written : LoanSeen → ℕ → ℕ → LoanSeen
with_written l index word = record l { words = slice_set l.words index (Some word) }

-- the words that were written in the loan are published
abbrev pub PublishesWritten : LoanSeen → WriteSeen → Type 0
PublishesWritten l h = (words : List ℕ) × (map Some words ≡ l.words) × (h ≡ publishing l.handle words)
