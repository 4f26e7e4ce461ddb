-- What a thread that has the words alone reads of a cell among them, and writes.
use Rattle.std.specs.Prelude.{◌≡◌, ◌⊎◌, ℕ, ◌+◌, ◌<◌, ◌≤◌, List, length, slice_index}
use Rattle.board_layout.specs.declared.shape.CellShape.{CellShape}
use Rattle.board_layout.specs.Layout.{cell_end}
use Rattle.board_cell_model.specs.OwedAccesses.{current_at}

-- the cell lies among the words, with its counter before its copies
pub record LiesAmong (shape : CellShape) (words : List ℕ) : Type 0 where
  pub head : 0 < shape.head
  pub within : cell_end shape ≤ length words

-- the counter of the cell
abbrev pub generation_in : CellShape → List ℕ → ℕ
generation_in shape words = slice_index words shape.first

-- the value of the cell: the words of the copy that is current at its counter
pub record HasValue (shape : CellShape) (words value : List ℕ) : Type 0 where
  pub width : length value ≡ shape.words
  pub each : (i : ℕ) → i < shape.words → slice_index words (current_at shape (generation_in shape words) + i) ≡ slice_index value i

-- the cell has this value next, and the words before and behind it stay
pub record PublishesIn (shape : CellShape) (words old new : List ℕ) : Type 0 where
  pub count : length new ≡ length old
  pub generation : generation_in shape new ≡ generation_in shape old + 1
  pub value : HasValue shape new words
  pub before : (i : ℕ) → i < shape.first → slice_index new i ≡ slice_index old i
  pub behind : (i : ℕ) → cell_end shape ≤ i → slice_index new i ≡ slice_index old i

-- ---- laws

-- a cell has one value
abbrev pub CellsHaveOneValue : Type 0
CellsHaveOneValue = (shape : CellShape) (words u v : List ℕ) → HasValue shape words u → HasValue shape words v → u ≡ v

-- no word of the one cell is a word of the other
abbrev pub LieApart : CellShape → CellShape → Type 0
LieApart c d = (cell_end c ≤ d.first) ⊎ (cell_end d ≤ c.first)

-- a publication in one cell leaves the value of another
abbrev pub OthersKeepTheirValues : Type 0
OthersKeepTheirValues = (shape other : CellShape) (value kept old new : List ℕ) → LieApart shape other → PublishesIn shape value old new → HasValue other old kept → HasValue other new kept
