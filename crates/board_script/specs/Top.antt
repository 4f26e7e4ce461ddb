-- The statuses and notes of the program.
use Rattle.std.specs.Prelude.{◌≡◌, ℕ, ◌≤◌, List, [], ◌∷◌, codes, decimal, Result}
use Rattle.script_loop.specs.declared.error.ScriptError.{ScriptError}
use Rattle.script_loop.specs.Runs.{Stream}
use Rattle.script_generator.specs.Summary.{IsGenerated}
use Rattle.board_script.specs.Whole.{RunsScript}
-- statuses and notes, which other programs over scripts have too
pub use Rattle.script_endings.specs.Endings.{IsNoted, note_of, status_of}

-- the note on how the program is called
abbrev pub usage_note : List ℕ
usage_note = codes "usage: board_run [gen N]\n"

-- ---- the words of the command line

-- they are `gen N`, with N from 1 to 1000000 in its one spelling
pub record AreGenWords (words : List (List ℕ)) (n : ℕ) : Type 0 where
  pub words_are : words ≡ codes "gen" ∷ decimal n ∷ []
  pub least : 1 ≤ n
  pub most : n ≤ 1000000

-- there are some, and they are not so
abbrev pub IsUsage : List (List ℕ) → Type 0
IsUsage words = (words ≡ [] → ⊥) × ((n : ℕ) → AreGenWords words n → ⊥)

-- ---- runs, where `reads` is that no read fails, and `takes room` that no write fails within so many bytes

-- a script was run, and the status and the note are those of its answer
pub record IsAnswered (status : ℕ) (reads : Type 0) (takes : ℕ → Type 0) (source sink notes : Stream) : Type 0 where
  pub answer : Result (Unit {0}) ScriptError
  pub run : RunsScript 4294967295 reads takes source sink answer
  pub is : status ≡ status_of answer
  pub note : IsNoted notes (note_of answer)

-- the script of n was run, and the status and the note are those of its answer
pub record IsSummedUp (status n : ℕ) (takes : ℕ → Type 0) (sink notes : Stream) : Type 0 where
  pub answer : Result (Unit {0}) ScriptError
  pub run : IsGenerated n takes sink answer
  pub is : status ≡ status_of answer
  pub note : IsNoted notes (note_of answer)

-- the status and the note are those that the words of the command line ask for
pub record HasEnded (words : List (List ℕ)) (status : ℕ) (reads : Type 0) (takes : ℕ → Type 0) (source sink notes : Stream) : Type 0 where
  -- without words the script of the source was run
  pub ran : words ≡ [] → IsAnswered status reads takes source sink notes
  -- with `gen N` that of N
  pub generated : (n : ℕ) → AreGenWords words n → IsSummedUp status n takes sink notes
  -- and with any other nothing
  pub usage : IsUsage words → status ≡ 2
  pub usage_note : IsUsage words → IsNoted notes usage_note
