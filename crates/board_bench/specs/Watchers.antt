-- Readers of one cell.
use Rattle.std.specs.Prelude.{◌≡◌, ℕ, zero, suc, ◌+◌, ◌-◌, ◌%◌, ◌^◌, ◌<◌, ◌≤◌, ◌==◌, if◌then◌else◌, All, List, [], ◌∷◌, ◌++◌, length, replicate, slice_get, IfSome, map, min, reverse, sum_by}
use Rattle.board_cell.specs.Passes.{CellSeen, GivesUp, ReaderSeen, WriterSeen}
use Rattle.board_cell.specs.declared.threaded.view.Note.{Note}
use Rattle.board_bench.specs.declared.shared.Watcher.{Watcher}

-- as far as a u64 counts
abbrev pub capped : ℕ → ℕ
capped n = min n (2 ^ 64 - 1)

-- the words that the last of these gets copied; these ones where there is none
abbrev pub read_last : List ℕ → List Note → List ℕ
read_last words [] = words
read_last words (n ∷ ns) = read_last n.words ns

-- the reader's pass is of this cell, its buffer has as many words as a value, those of its last get and zeros before the first one, and its gets are counted
pub record IsOf (cell : CellSeen) (w : Watcher) : Type 0 where
  pub pass : w.pass.cell ≡ cell.cell
  pub out : length w.out.items ≡ cell.width
  pub read : w.out.items ≡ read_last (replicate cell.width 0) w.pass.notes
  pub gets : w.gets ≡ capped (length w.pass.notes)

-- the last of these words, where there is one, is this number or a later one
abbrev pub EndsFrom : ℕ → List ℕ → Type 0
EndsFrom last words = IfSome (slice_get words (length words - 1)) (λ word. last ≤ word)

-- such words stand in the reader's buffer
abbrev pub HasSeen : ℕ → Watcher → Type 0
HasSeen last w = EndsFrom last w.out.items

-- such words were copied by the pass's last get, of a cell of this width that began with zeros
abbrev pub HasReadTo : ℕ → ℕ → ReaderSeen → Type 0
HasReadTo width last p = EndsFrom last (read_last (replicate width 0) p.notes)

-- the reader's pass
abbrev pub pass_of : Watcher → ReaderSeen
pass_of w = w.pass

-- the passes of these readers, the last one's first
abbrev pub passes_back : List Watcher → List ReaderSeen
passes_back watchers = map pass_of (reverse watchers)

-- how many gets these passes made
abbrev pub gets_of : List ReaderSeen → ℕ
gets_of passes = capped (sum_by (λ (p : ReaderSeen). length p.notes) passes)

-- each of these values has so many words
abbrev pub AreWide : ℕ → List (List ℕ) → Type 0
AreWide width values = All (λ (value : List ℕ). length value ≡ width) values

-- they stay so
abbrev pub StayWide : ℕ → List (List ℕ) → List (List ℕ) → Type 0
StayWide width old new = AreWide width old → AreWide width new

-- the writer is of this cell, the words are as many as a value has, and so many updates can be counted
abbrev pub CanUpdate : CellSeen → WriterSeen → List ℕ → ℕ → Type 0
CanUpdate cell w words updates = (w.cell ≡ cell.cell) × (length words ≡ cell.width) × (length w.published + updates < 2 ^ 64)

-- 1, 2 and so on, so many values: each number in each word
abbrev pub numbered : ℕ → ℕ → List (List ℕ)
numbered width zero = []
numbered width (suc n) = numbered width n ++ replicate width (n + 1) ∷ []

-- two values in turn, so many
abbrev pub in_turn : List ℕ → List ℕ → ℕ → List (List ℕ)
in_turn one two zero = []
in_turn one two (suc n) = in_turn one two n ++ (if n % 2 == 0 then one else two) ∷ []

-- what a race's writer publishes: zeros, and then 1, 2 and so on, so many
abbrev pub counted_up : ℕ → ℕ → List (List ℕ)
counted_up width last = replicate width 0 ∷ numbered width last

-- what the updates of one thread publish: 2 in each word, and then 1 and 2 in turn, so many
abbrev pub took_turns : ℕ → ℕ → List (List ℕ)
took_turns width count = replicate width 2 ∷ in_turn (replicate width 1) (replicate width 2) count

-- the writer after so many updates of this cell
abbrev pub HasUpdated : CellSeen → WriterSeen → WriterSeen → ℕ → Type 0
HasUpdated cell old new updates =
    (new.cell ≡ cell.cell) × (length new.published ≡ length old.published + updates) × (AreWide cell.width old.published → AreWide cell.width new.published)

-- each value that these gets copied has so many words
abbrev pub AreCopiedWide : ℕ → List Note → Type 0
AreCopiedWide width notes = All (λ (n : Note). length n.words ≡ width) notes

-- they stay so
abbrev pub StayCopiedWide : ℕ → List Note → List Note → Type 0
StayCopiedWide width old new = AreCopiedWide width old → AreCopiedWide width new

-- the last get had one try, and it wasn't accepted, for the counter rose: from no less than was known to be reached before
pub record MetUpdate (known before after : ℕ) (new : ReaderSeen) : Type 0 where
  pub begins : known ≤ before
  pub rose : before < after
  pub last : ReaderSeen
  pub gave_up : GivesUp 1 before after last new

-- readers of this cell that have all seen the last update, as many as before
abbrev pub HaveWatched : CellSeen → ℕ → List Watcher → List Watcher → Type 0
HaveWatched cell last old new = (length new ≡ length old) × All (IsOf cell) new × All (HasSeen last) new

-- these readers are of this cell, and so many
abbrev pub AreReaders : CellSeen → ℕ → List Watcher → Type 0
AreReaders cell many watchers = All (IsOf cell) watchers × (length watchers ≡ many)
