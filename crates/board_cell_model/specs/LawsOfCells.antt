-- Laws of one cell: what a get hears, where the copies lie, and in what order a publication writes.
use Rattle.std.specs.Prelude.{ℕ, ◌≡◌, ◌≢◌, ◌+◌, ◌<◌, ◌≤◌, ◌⊎◌, List, [], ◌∷◌, ◌++◌, length, slice_index}
use Rattle.board_layout.specs.declared.shape.CellShape.{CellShape}
use Rattle.board_cell_model.specs.OwedAccesses.{Reading, current_at, finished, hear, opening, owed_write, reading_from, spare_at, to_write, trying}

-- what a get hears in a run is what it hears word by word
abbrev pub GetsHearInOrder : Type 0
GetsHearInOrder = (w : ℕ) (r : Reading) (heard : List ℕ) (word : ℕ) → reading_from w r (heard ++ word ∷ []) ≡ hear w (reading_from w r heard) word

-- a try has the counter that opened it, and the words since
abbrev pub TriesHaveTheirWords : Type 0
TriesHaveTheirWords = (w c : ℕ) (words : List ℕ) → length words ≤ w → reading_from w opening (c ∷ words) ≡ trying c words

-- the same counter finishes it
abbrev pub TriesFinish : Type 0
TriesFinish = (w c : ℕ) (words : List ℕ) → length words ≡ w → reading_from w opening (c ∷ (words ++ c ∷ [])) ≡ finished c words

-- another one opens the next try
abbrev pub TriesBeginAgain : Type 0
TriesBeginAgain = (w c d : ℕ) (words rest : List ℕ) → length words ≡ w → d ≢ c → reading_from w opening (c ∷ (words ++ d ∷ rest)) ≡ reading_from w opening (d ∷ rest)

-- the copy that is current and the one that is spare lie apart
abbrev pub CopiesLieApart : Type 0
CopiesLieApart = (c : CellShape) (g : ℕ) → (spare_at c g + c.words ≤ current_at c g) ⊎ (current_at c g + c.words ≤ spare_at c g)

-- a publication writes its words into the spare copy, in order
abbrev pub WordsGoIntoTheSpareCopy : Type 0
WordsGoIntoTheSpareCopy = (board : ℕ) (c : CellShape) (g : ℕ) (words : List ℕ) (k : ℕ) → k < length words → owed_write board c g words k ≡ to_write board (spare_at c g + k) (slice_index words k)

-- and then raises the counter
abbrev pub CountersAreRaisedLast : Type 0
CountersAreRaisedLast = (board : ℕ) (c : CellShape) (g : ℕ) (words : List ℕ) → owed_write board c g words (length words) ≡ to_write board c.first (g + 1)
