-- What a line reader has in hand.
use Rattle.std.specs.Prelude.{◌≡◌, ℕ, ◌-◌, ◌<◌, ◌≤◌, Bool, false, List, [], length, take, drop, slice_get, IsSomeAnd, Option, Some, None, ⊤}
use Rattle.std.specs.Io.KnownBytes.{IsAtEnd, Keeps, prepend_known}
use Rattle.script_loop.specs.declared.line_reader.LineReader.{LineReader}
use Rattle.script_loop.specs.declared.line_reader.Fetched.{Fetched}
use Rattle.script_loop.specs.declared.line_reader.Fetched.TheVariants.{Line, Long, End}
use Rattle.board_model.specs.Lines.{IsOneLine, lines_of}
use Rattle.script_loop.specs.WholeLines.{LosesLine}

-- ---- the reader

-- the bytes from one place to another
abbrev pub between : List ℕ → ℕ → ℕ → List ℕ
between bytes from to = take (to - from) (drop from bytes)

-- the bytes that were read and are not given out
abbrev pub in_hand : LineReader → List ℕ
in_hand r = between r.bytes.items r.start r.end

-- how many bytes are in hand
abbrev pub hand_length : LineReader → ℕ
hand_length r = length (in_hand r)

-- the bytes still to come: those in hand, and then those that the source has left
abbrev pub to_come : LineReader → Option (List ℕ) → Option (List ℕ)
to_come r left = prepend_known (in_hand r) left

-- the line that was given last
abbrev pub line_given : LineReader → List ℕ
line_given r = between r.bytes.items r.line_start r.line_end

-- the source has come to its end
abbrev pub source_ended : LineReader → Bool
source_ended r = r.ended

-- this holds till the end of the source is told
abbrev pub TillEnd : Bool → Type 0 → Type 0
TillEnd ended holds = ended ≡ false → holds

-- the next line can't be told without the source: neither a newline nor 4097 bytes are in hand, and its end isn't told
pub record NeedsBytes (r : LineReader) : Type 0 where
  pub lacks : IsOneLine (in_hand r)
  pub room : hand_length r ≤ 4096
  pub unended : source_ended r ≡ false

-- whether a byte is left can't be told without the source: none is in hand, and its end isn't told
pub record NeedsByte (r : LineReader) : Type 0 where
  pub none : in_hand r ≡ []
  pub unended : source_ended r ≡ false

-- ---- what it finds

-- a line as a reader gives it out
abbrev pub IsShortLine : List ℕ → Type 0
IsShortLine line = IsOneLine line × (length line ≤ 4096)

-- as many bytes as a reader holds, and no newline among them
abbrev pub IsFull : List ℕ → Type 0
IsFull hand = IsOneLine hand × (length hand ≡ 4097)

-- the first line has more than 4096 bytes, where the bytes are known
abbrev pub HasLongLine : Option (List ℕ) → Type 0
HasLongLine None = ⊤
HasLongLine (Some bytes) = IsSomeAnd (slice_get (lines_of bytes) 0) (λ line. 4096 < length line)

-- a byte is left, where the bytes are known
abbrev pub HasMore : Option (List ℕ) → Type 0
HasMore None = ⊤
HasMore (Some bytes) = 0 < length bytes

-- what a look for the next line found, with the source's end told or not: before it these bytes were to come, and now those are
abbrev pub IsFetched : Fetched → Bool → List ℕ → Option (List ℕ) → Option (List ℕ) → Type 0
IsFetched Line ended line old new = LosesLine ended old new line
IsFetched Long ended line old new = HasLongLine old
IsFetched End ended line old new = IsAtEnd old

-- where no line was found, the bytes to come are those that were to come
abbrev pub KeepsUnlessLine : Fetched → Option (List ℕ) → Option (List ℕ) → Type 0
KeepsUnlessLine Line old new = ⊤
KeepsUnlessLine Long old new = Keeps old new
KeepsUnlessLine End old new = Keeps old new

-- where a line was found, it is short
abbrev pub FoundShort : Fetched → List ℕ → Type 0
FoundShort Line line = IsShortLine line
FoundShort Long line = ⊤
FoundShort End line = ⊤

-- where the line was too long, the hand is full
abbrev pub FoundFull : Fetched → List ℕ → Type 0
FoundFull Line hand = ⊤
FoundFull Long hand = IsFull hand
FoundFull End hand = ⊤

abbrev pub IsEnd : Fetched → Type 0
IsEnd Line = ⊥
IsEnd Long = ⊥
IsEnd End = Unit {0}
