-- What a reader of the lines of pairs has in hand, and what it found.
use Rattle.std.specs.Prelude.{◌≡◌, ℕ, ◌-◌, ◌<◌, ◌≤◌, Bool, true, false, List, [], ◌∷◌, ◌++◌, length, take, drop, Option, Some, None, ⊤, Result, IsOk, OnErr, OnOk}
use Rattle.std.specs.Io.KnownBytes.{IsAtEnd, Keeps, prepend_known}
use Rattle.board_model.specs.Lines.{HasCause, IsOneLine, TakesLine, lines_of}
use Rattle.script_loop.specs.Reader.{TillEnd}
use Rattle.script_loop.specs.Runs.{CountStays, HasFailedOnce, Stream}
use Rattle.script_pairs.specs.declared.pair_lines.PairLines.{PairLines}
use Rattle.script_pairs.specs.declared.pair_lines.Found.{Found}
use Rattle.script_pairs.specs.declared.pair_lines.Found.TheVariants.{Line, Long, End}

-- the bytes that were read and are not given out
abbrev pub in_hand : PairLines → List ℕ
in_hand r = take (r.end - r.start) (drop r.start r.bytes.items)

-- the source has told its end
abbrev pub has_ended : PairLines → Bool
has_ended r = r.ended

-- the bytes still to come: those in hand, and then those that the source has left
abbrev pub to_come : PairLines → Option (List ℕ) → Option (List ℕ)
to_come r left = prepend_known (in_hand r) left

-- whether a byte is left can't be told without the source: none is in hand, and its end isn't told
pub record NeedsByte (r : PairLines) : Type 0 where
  pub none : in_hand r ≡ []
  pub unended : has_ended r ≡ false

-- bytes were looked for, and those to come are as before; of the source's reads, `never` is that none fails, and `sure` that none does here,
-- and `still_never` and `still_sure` are what is known of it afterwards: that none fails, and that none does till one has told the end
pub record Refills {T E : Type 0} (old new : PairLines) (source : Stream) (never still_never sure still_sure : Type 0) (result : Result T E) : Type 0 where
  pub kept : Keeps (to_come old source.before) (to_come new source.after)
  -- bytes are in hand, or the source is at its end
  pub some : OnOk result (has_ended new ≡ false → 0 < length (in_hand new))
  pub none : OnOk result (has_ended new ≡ true → in_hand new ≡ [])
  pub one_source : OnOk result (has_ended new ≡ true → IsAtEnd source.after)
  -- it fails only where the source's count of faults rises, by one
  pub cause : HasCause source.faults_before source.faults_after result
  pub told : OnOk result (CountStays source)
  pub once : OnErr result (HasFailedOnce source)
  pub unfailing : never → IsOk result
  pub never_later : never → still_never
  pub before_end : sure → IsOk result
  pub still_before : sure → OnOk result (TillEnd (has_ended new) still_sure)

-- the first line has more than so many bytes
pub record IsLonger (most : ℕ) (bytes : List ℕ) : Type 0 where
  pub line : List ℕ
  pub more : List (List ℕ)
  pub lines : lines_of bytes ≡ line ∷ more
  pub long : most < length line

-- the same, where the bytes are known
abbrev pub HasLonger : ℕ → Option (List ℕ) → Type 0
HasLonger most None = ⊤
HasLonger most (Some bytes) = IsLonger most bytes

-- what a look for the next line found: before it these bytes were to come, and now those are
abbrev pub IsFound : Found → ℕ → List ℕ → Option (List ℕ) → Option (List ℕ) → Type 0
IsFound Line most line old new = TakesLine old new line × (length line ≤ most)
IsFound Long most line old new = HasLonger most old
IsFound End most line old new = IsAtEnd old

-- the bytes in hand up to a newline went behind the line, and the newline is gone
pub record TakesWhole (hand rest line longer : List ℕ) : Type 0 where
  pub part : List ℕ
  pub one : IsOneLine part
  pub hand_is : hand ≡ part ++ 10 ∷ rest
  pub line_is : longer ≡ line ++ part

-- all bytes in hand went behind the line, and no newline was among them
pub record TakesAll (hand rest line longer : List ℕ) : Type 0 where
  pub one : IsOneLine hand
  pub none : rest ≡ []
  pub line_is : longer ≡ line ++ hand

-- what of the bytes in hand went behind the line, with a newline found or not
abbrev pub TakesPart : Bool → List ℕ → List ℕ → List ℕ → List ℕ → Type 0
TakesPart true hand rest line longer = TakesWhole hand rest line longer
TakesPart false hand rest line longer = TakesAll hand rest line longer
