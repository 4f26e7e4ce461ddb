-- The accesses that reads and publications of an entry owe, from the accesses that they have made so far.
use Rattle.std.specs.Prelude.{ℕ, ◌+◌, ◌*◌, ◌%◌, Bool, true, false, ◌==◌, if◌then◌else◌, List, [], ◌∷◌, ◌++◌, length, slice_index}
use Rattle.board_layout.specs.declared.shape.CellShape.{CellShape}
use Rattle.board_cell_model.specs.declared.access.Access.{Access}
use Rattle.board_cell_model.specs.declared.access.Access.TheVariants as access

-- ---- the two copies of a cell: at counter g the spare copy is number g mod 2, and the current one is the other

-- the first word of copy number g mod 2
abbrev pub copy_at : CellShape → ℕ → ℕ
copy_at c g = c.first + c.head + g % 2 * c.words

-- the first word of the copy that is spare at counter g
abbrev pub spare_at : CellShape → ℕ → ℕ
spare_at c g = copy_at c g

-- the first word of the copy that is current at counter g
abbrev pub current_at : CellShape → ℕ → ℕ
current_at c g = copy_at c (g + 1)

-- ---- accesses

-- an access as it is owed: which word is read is owed, and what is read there is the memory's to say
pub data Owed : Type 0 where
  to_table : Owed
  to_read : (board word : ℕ) → Owed
  to_write : (board word value : ℕ) → Owed

-- an access as it was owed, without the word that was read
abbrev pub owed_of : Access → Owed
owed_of access.Table = to_table
owed_of (access.Read board word value) = to_read board word
owed_of (access.Write board word value) = to_write board word value

-- the word that a call hears in an access
abbrev pub heard : Access → ℕ
heard access.Table = 0
heard (access.Read board word value) = value
heard (access.Write board word value) = 0

-- how far a get is: nothing read; a try at a counter, with its words so far; finished with these
pub data Reading : Type 0 where
  opening : Reading
  trying : (counter : ℕ) (words : List ℕ) → Reading
  finished : (counter : ℕ) (words : List ℕ) → Reading

-- a get of w words hears one more word: a try is finished by the counter that it began with, and another counter begins the next
abbrev pub hear : ℕ → Reading → ℕ → Reading
hear w opening v = trying v []
hear w (trying c words) v = if length words == w then (if v == c then finished c words else trying v []) else trying c (words ++ v ∷ [])
hear w (finished c words) v = finished c words

-- after these words were heard
abbrev pub reading_from : ℕ → Reading → List ℕ → Reading
reading_from w r [] = r
reading_from w r (v ∷ vs) = reading_from w (hear w r v) vs

-- the get has found its counter unchanged, and so has its value
abbrev pub is_finished : Reading → Bool
is_finished opening = false
is_finished (trying c words) = false
is_finished (finished c words) = true

-- a get reads the counter, then the words of the current copy in order, and then the counter again
abbrev pub owed_read : ℕ → CellShape → Reading → Owed
owed_read board c opening = to_read board c.first
owed_read board c (trying counter words) = to_read board (if length words == c.words then c.first else current_at c counter + length words)
owed_read board c (finished counter words) = to_read board c.first

-- a publication at generation g has written k words: the words go into the spare copy in order, and then the counter is raised
abbrev pub owed_write : ℕ → CellShape → ℕ → List ℕ → ℕ → Owed
owed_write board c g words k = if k == length words then to_write board c.first (g + 1) else to_write board (spare_at c g + k) (slice_index words k)
