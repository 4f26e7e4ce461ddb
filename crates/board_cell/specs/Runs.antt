-- The accesses of whole runs, one after another.
use Rattle.std.specs.Prelude.{◌≡◌, ℕ, zero, suc, ◌+◌, ◌-◌, List, [], ◌∷◌, ◌++◌, length, map, Result, OnOk}
use Rattle.board_layout.specs.declared.shape.CellShape.{CellShape}
use Rattle.board_cell_model.specs.OwedAccesses.{Owed, to_read, Reading, finished, hear, owed_read, owed_write}
use Rattle.board_cell.specs.Calls.{on_board, Asking, Getting, Publishing, Putting, Updating, next_put, next_raise}
use Rattle.board_cell.specs.declared.access.Access.{Access}

-- what a get owes before each of these words, until it is finished
abbrev pub owed_reads : ℕ → CellShape → Reading → List ℕ → List Owed
owed_reads board c r [] = []
owed_reads board c (finished counter words) (v ∷ vs) = []
owed_reads board c r (v ∷ vs) = owed_read board c r ∷ owed_reads board c (hear c.words r v) vs

-- what an update owes in this many accesses, of which the first has number k
abbrev pub owed_writes_from : ℕ → CellShape → ℕ → List ℕ → ℕ → ℕ → List Owed
owed_writes_from board c g words k zero = []
owed_writes_from board c g words k (suc n) = owed_write board c g words k ∷ owed_writes_from board c g words (k + 1) n

-- what an update owes from its access number k to its last one, the counter
abbrev pub owed_writes : ℕ → CellShape → ℕ → List ℕ → ℕ → List Owed
owed_writes board c g words k = owed_writes_from board c g words k (length words + 1 - k)

-- what a look at the counter owes, where these words are read: one read of the counter, and nothing where there is no word
abbrev pub owed_looks : ℕ → CellShape → List ℕ → List Owed
owed_looks board c [] = []
owed_looks board c (v ∷ vs) = to_read board c.first ∷ []

-- the accesses that are owed were noted behind the old ones, whichever board they are made on
abbrev pub AreNoted : List Access → List Access → (ℕ → List Owed) → Type 0
AreNoted old new owed = (board : ℕ) → map (on_board board) new ≡ map (on_board board) old ++ owed board

-- a run that went through noted the accesses that it owed
abbrev pub Notes : {A E : Type 0} → Result A E → List Access → List Access → (ℕ → List Owed) → Type 0
Notes result old new owed = OnOk result (AreNoted old new owed)

-- ---- what whole runs owe, on the board with this number

abbrev pub reads_owed : Getting → List ℕ → ℕ → List Owed
reads_owed call words board = owed_reads board call.shape call.reading words

abbrev pub writes_owed : Updating → ℕ → List Owed
writes_owed call board = owed_writes board call.shape call.generation call.words call.written

abbrev pub looks_owed : Asking → List ℕ → ℕ → List Owed
looks_owed call words board = owed_looks board call.shape words

abbrev pub put_owed : Putting → ℕ → List Owed
put_owed call board = next_put call board ∷ []

abbrev pub raise_owed : Publishing → ℕ → List Owed
raise_owed call board = next_raise call board ∷ []
