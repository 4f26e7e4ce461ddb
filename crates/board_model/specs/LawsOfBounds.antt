-- Laws of bounds: owed words lie in their boards, and what a session draws and writes are numbers of 64 bits.
use Rattle.std.specs.Prelude.{◌≡◌, ℕ, ◌+◌, ◌*◌, ◌^◌, ◌<◌, ◌≤◌, List, length, slice_index}
use Rattle.std.specs.List.{AllByRecursion}
use Rattle.board_model.specs.declared.answer.Answer.{Answer}
use Rattle.board_model.specs.declared.line.Line.{Line}
use Rattle.board_model.specs.LineGrammar.{IsAddedEntry, IsNumber, IsValue}
use Rattle.board_cell_model.specs.OwedAccesses.{to_read, to_write}
use Rattle.board_model.specs.Requests.{Request, TableCall, create, fill, put, table, update}
use Rattle.board_model.specs.Parties.{Party, Running, free, gone, owed, running}
use Rattle.board_model.specs.LawfulSession.{IsLawful, IsRight, Session, State, after, start, state_after}
use Rattle.board_model.specs.Sound.{Sound}

-- ---- words

-- the word is one of its board's, and these are few; the board's number was drawn
pub record IsInBoard (s : State) (board word : ℕ) : Type 0 where
  pub drawn : board ≤ s.standing.tables.last_board
  pub inside : word < length (s.memory board)
  pub few : 8 * length (s.memory board) ≤ 4294967295

-- what a running call is to read lies in its board
abbrev pub OwedReadsAreInside : Type 0
OwedReadsAreInside = (s : State) (party : List ℕ) (r : Running) (board word : ℕ) → Sound s → s.parties party ≡ running r
    → owed r.request r.so_far ≡ to_read board word → IsInBoard s board word

-- and what it is to write
abbrev pub OwedWritesAreInside : Type 0
OwedWritesAreInside = (s : State) (party : List ℕ) (r : Running) (board word value : ℕ) → Sound s → s.parties party ≡ running r
    → owed r.request r.so_far ≡ to_write board word value → IsInBoard s board word

-- ---- numbers and lists

-- no number that was drawn is above n, and no entry had more values
pub record IsWithin (s : State) (n : ℕ) : Type 0 where
  pub boards : s.standing.tables.last_board ≤ n
  pub ports : s.standing.tables.last_port ≤ n
  pub lists : (b i : ℕ) → length (s.published b i) ≤ n

-- a line draws at most one of each
abbrev pub LinesDrawOne : Type 0
LinesDrawOne = (s : State) (l : Line) (a : Answer) (n : ℕ) → IsRight s l a → IsWithin s n → IsWithin (after s l a) (n + 1)

-- so a session draws no more than it has lines
abbrev pub SessionsDrawTheirLength : Type 0
SessionsDrawTheirLength = (pairs : Session) → IsLawful pairs → IsWithin (state_after start pairs) (length pairs)

-- ---- written words

-- the first values of the entries that a call adds are numbers
abbrev pub HasNumbersInTable : TableCall → Type 0
HasNumbersInTable (create f name k limits attributes entries) = AllByRecursion IsAddedEntry entries
HasNumbersInTable c = Unit {0}

-- the words that a call may write are numbers
abbrev pub HasNumbers : Request → Type 0
HasNumbers (table c) = HasNumbersInTable c
HasNumbers (update u) = IsValue u.value
HasNumbers (put l i w) = IsNumber w
HasNumbers (fill l v) = IsValue v
HasNumbers request = Unit {0}

-- the words that the call of a party may write are numbers
abbrev pub RunsNumbers : Party → Type 0
RunsNumbers free = Unit {0}
RunsNumbers (running r) = HasNumbers r.request
RunsNumbers gone = Unit {0}

-- the words of the memory, and those of the calls that run, are numbers
pub record AreNumbers (s : State) : Type 0 where
  pub words : (b i : ℕ) → IsNumber (slice_index (s.memory b) i)
  pub calls : (party : List ℕ) → RunsNumbers (s.parties party)

-- so are the words that are owed to be written, in a session of fewer than 2^63 lines
abbrev pub OwedWritesAreNumbers : Type 0
OwedWritesAreNumbers = (s : State) (party : List ℕ) (r : Running) (board word value n : ℕ) → Sound s → IsWithin s n → n < 2 ^ 63 → AreNumbers s
    → s.parties party ≡ running r → owed r.request r.so_far ≡ to_write board word value → IsNumber value

-- a right line keeps them numbers
abbrev pub LinesKeepNumbers : Type 0
LinesKeepNumbers = (s : State) (l : Line) (a : Answer) (n : ℕ) → IsRight s l a → Sound s → IsWithin s n → n < 2 ^ 63 → AreNumbers s → AreNumbers (after s l a)

-- before the first line
pub record BeginsBounded : Type 0 where
  pub within : IsWithin start 0
  pub numbers : AreNumbers start

-- and after a session that is no longer
abbrev pub SessionsKeepNumbers : Type 0
SessionsKeepNumbers = (pairs : Session) → IsLawful pairs → length pairs < 2 ^ 63 → AreNumbers (state_after start pairs)
