-- Where the cells of a board lie, and what is in them at first. Places, heads and payloads are in bytes, unless said otherwise.
use Rattle.std.specs.Prelude.{◌≡◌, ℕ, ◌+◌, ◌-◌, ◌*◌, ◌/◌, ◌%◌, ◌^◌, ◌<◌, ◌≤◌, max, List, [], ◌∷◌, ◌++◌, replicate}
use Rattle.board_layout.specs.declared.shape.Shape.{Shape}
use Rattle.board_layout.specs.declared.shape.CellPlace.{CellPlace}
use Rattle.board_layout.specs.declared.shape.CellShape.{CellShape}

-- the least multiple of a that is at least n
abbrev pub align : ℕ → ℕ → ℕ
align a n = (n + (a - 1)) / a * a

-- the bytes before the first copy: the counter, a reserved word and padding
abbrev pub head_bytes : Shape → ℕ
head_bytes s = align s.alignment 16

-- the bytes of a cell: its head and two copies
abbrev pub cell_bytes : Shape → ℕ
cell_bytes s = head_bytes s + 16 * s.words

-- what a cell's place is a multiple of
abbrev pub cell_alignment : Shape → ℕ
cell_alignment s = max 8 s.alignment

-- the bytes asked for: each cell's, and what may lie unused before it
abbrev pub payload : List Shape → ℕ
payload [] = 0
payload (s ∷ ss) = (cell_bytes s + (cell_alignment s - 1)) + payload ss

-- the first place for a cell of this shape from this byte on, and the cell there
abbrev pub start_of : ℕ → Shape → ℕ
start_of at s = align (cell_alignment s) at

-- the cell that is laid there: its place in bytes, its parts in words
abbrev pub place_at : ℕ → Shape → CellPlace
place_at at s = record { place = start_of at s; first = start_of at s / 8; head = head_bytes s / 8; words = s.words }

-- the cells, one after another from this byte on, and the byte after the last
abbrev pub places_from : ℕ → List Shape → List CellPlace
places_from at [] = []
places_from at (s ∷ ss) = place_at at s ∷ places_from (start_of at s + cell_bytes s) ss

-- the first byte that these cells leave free behind them
abbrev pub end_from : ℕ → List Shape → ℕ
end_from at [] = at
end_from at (s ∷ ss) = end_from (start_of at s + cell_bytes s) ss

-- a power of two up to 4096
abbrev pub IsAlignment : ℕ → Type 0
IsAlignment a = (k : ℕ) × (k ≤ 12) × (a ≡ 2 ^ k)

-- a shape that a cell can have: some words, and a fit alignment
pub record IsShape (s : Shape) : Type 0 where
  pub words : 0 < s.words
  pub alignment : IsAlignment s.alignment

-- how a planned cell lies among the words of its board
abbrev pub cell_shape : CellPlace → CellShape
cell_shape c = record { first = c.first; head = c.head; words = c.words }

-- the word after a cell
abbrev pub cell_end : CellShape → ℕ
cell_end c = c.first + c.head + 2 * c.words

-- a cell that suits a shape
pub record IsCellFor (s : Shape) (c : CellPlace) : Type 0 where
  pub aligned : c.place % cell_alignment s ≡ 0
  pub first : 8 * c.first ≡ c.place
  pub head : 8 * c.head ≡ head_bytes s
  pub words : c.words ≡ s.words

-- the words of one cell lie before those of the other
abbrev pub LiesBefore : CellPlace → CellPlace → Type 0
LiesBefore a b = cell_end (cell_shape a) ≤ b.first

-- the words of a cell are among the first `end` words
abbrev pub LiesWithin : ℕ → CellPlace → Type 0
LiesWithin end c = cell_end (cell_shape c) ≤ end

-- the cell's words at first: the counter 1, zeros up to the head, the value, and zeros for the second copy
abbrev pub opening_cell : CellPlace → List ℕ → List ℕ
opening_cell c value = 1 ∷ (replicate (c.head - 1) 0 ++ (value ++ replicate c.words 0))

-- the words of a board from this word on
abbrev pub opening_words : ℕ → List CellPlace → List (List ℕ) → List ℕ
opening_words at [] values = []
opening_words at (c ∷ cs) [] = []
opening_words at (c ∷ cs) (v ∷ vs) = replicate (c.first - at) 0 ++ (opening_cell c v ++ opening_words (c.first + c.head + 2 * c.words) cs vs)
