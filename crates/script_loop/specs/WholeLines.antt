-- Lines that were whole when they were read, byte by byte.
use Rattle.std.specs.Prelude.{◌≡◌, ℕ, ◌<◌, Bool, IsTrue, List, [], ◌∷◌, ◌++◌, length, ◌⊎◌, Option, Some, None, ⊤}
use Rattle.std.specs.List.{flat_map, AllByRecursion}
use Rattle.board_model.specs.Lines.{IsOneLine}
use Rattle.script_model.specs.ScriptSession.{Session}
use Rattle.script_model.specs.ScriptOutput.{SpellsAll}

-- ---- one line

-- the line was all that was left, and has no newline: it is whole, since the source had told its end
pub record IsLastLine (ended : Bool) (old new line : List ℕ) : Type 0 where
  pub told : IsTrue ended
  pub some : 0 < length line
  pub all : old ≡ line
  pub none : new ≡ []

-- known bytes lose a line: with its newline, or as the last one
abbrev pub LosesLine : Bool → Option (List ℕ) → Option (List ℕ) → List ℕ → Type 0
LosesLine ended None new line = ⊤
LosesLine ended (Some old) None line = ⊥
LosesLine ended (Some old) (Some new) line = (old ≡ line ++ 10 ∷ new) ⊎ IsLastLine ended old new line

-- ---- all lines so far

-- each line with its newline
abbrev pub with_newlines : List (List ℕ) → List ℕ
with_newlines lines = flat_map (λ line. line ++ 10 ∷ []) lines

-- the input is the lines of the session, each with its newline, and then what is left
pub record WholeLines (input left : List ℕ) (session : Session) : Type 0 where
  pub lines : List (List ℕ)
  pub bytes : input ≡ with_newlines lines ++ left
  pub whole : AllByRecursion IsOneLine lines
  pub spelled : SpellsAll lines session

-- the same, where the bytes are known
abbrev pub HasWholeLines : Option (List ℕ) → Option (List ℕ) → Session → Type 0
HasWholeLines None left session = ⊤
HasWholeLines (Some input) None session = ⊥
HasWholeLines (Some input) (Some left) session = WholeLines input left session
