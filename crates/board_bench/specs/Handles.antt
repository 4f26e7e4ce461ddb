-- Typed handles of entries of 1, 4 and 32 words.
use Rattle.std.specs.Prelude.{◌≡◌, ℕ, ◌+◌, ◌^◌, ◌<◌, List, [], ◌∷◌, ◌++◌, drop, length, replicate, take}
use Rattle.board_cell.specs.Passes.{GetsWithin, ReaderSeen}
use Rattle.board_cell.specs.declared.threaded.view.Note.{Note}
use Rattle.board_handles.specs.Handles.{ReadSeen, WriteSeen}
use Rattle.board_bench.specs.Watchers.{in_turn, read_last}
use Rattle.board_bench.specs.declared.widths.ReadHandle.{ReadHandle}
use Rattle.board_bench.specs.declared.widths.ReadHandle.TheVariants as read
use Rattle.board_bench.specs.declared.widths.WriteHandle.{WriteHandle}
use Rattle.board_bench.specs.declared.widths.WriteHandle.TheVariants as write

-- so many more values can be counted
abbrev pub HasRoomFor : ℕ → WriteSeen → Type 0
HasRoomFor count h = length h.held.published + count < 2 ^ 64

-- the value of the words that the last of these gets copied; this one where there is none
abbrev pub last_value : {V : Type 0} → (List ℕ → V) → V → List Note → V
last_value value_of first [] = first
last_value value_of first (n ∷ ns) = last_value value_of (value_of n.words) ns

-- a get of one try was accepted, and its words are those of this value
pub record ReadsOnce {V : Type 0} (value_of : List ℕ → V) (value : V) (old new : ReaderSeen) : Type 0 where
  pub generation : ℕ
  pub words : List ℕ
  pub gets : GetsWithin 1 generation words old new
  pub value_is : value ≡ value_of words

-- more gets, of which the last one's value is the latest; where there is none the first one is
pub record ReadsOn {V : Type 0} (value_of : List ℕ → V) (first latest : V) (old new : List Note) : Type 0 where
  pub gained : List Note
  pub notes : new ≡ old ++ gained
  pub value : latest ≡ last_value value_of first gained

-- the last get copied 7 in each word of a value of this width; where there was none, nothing was copied
abbrev pub HasReadSevens : ℕ → ReadSeen → Type 0
HasReadSevens width h = take width (read_last (replicate width 7) h.pass.notes) ≡ replicate width 7

-- behind the opening value 1 and 2 in each word were published in turn, so many
abbrev pub HasTakenTurns : ℕ → ℕ → WriteSeen → Type 0
HasTakenTurns width count h = drop 1 h.held.published ≡ in_turn (replicate width 1) (replicate width 2) count

-- the handle, whatever its width
abbrev pub read_seen : ReadHandle → ReadSeen
read_seen (read.One h) = h
read_seen (read.Four h) = h
read_seen (read.ThirtyTwo h) = h

abbrev pub write_seen : WriteHandle → WriteSeen
write_seen (write.One h) = h
write_seen (write.Four h) = h
write_seen (write.ThirtyTwo h) = h
