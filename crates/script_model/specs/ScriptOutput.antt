-- The sessions whose lines are those of an input, and their output.
use Rattle.std.specs.Prelude.{◌≡◌, ℕ, ◌≤◌, List, [], ◌∷◌, ◌++◌, length, Option, Some, None, ⊤}
use Rattle.std.specs.List.{flat_map, AllByRecursion}
use Rattle.board_model.specs.Lines.{lines_of}
use Rattle.script_model.specs.declared.line.ScriptLine.{ScriptLine}
use Rattle.script_model.specs.ScriptGrammar.{SpellsLine}
use Rattle.script_model.specs.ScriptAnswers.{script_answer_line}
use Rattle.script_model.specs.ScriptSession.{Session, IsLawful}

-- the bytes of each line are those of its pair
abbrev pub SpellsAll : List (List ℕ) → Session → Type 0
SpellsAll [] [] = Unit {0}
SpellsAll (bytes ∷ more) (pair ∷ pairs) = SpellsLine bytes pair.0 × SpellsAll more pairs
SpellsAll [] (pair ∷ pairs) = ⊥
SpellsAll (bytes ∷ more) [] = ⊥

-- the answers in order, each with its newline
abbrev pub output_of : Session → List ℕ
output_of pairs = flat_map (λ pair. script_answer_line pair.1) pairs

-- the output is that of a lawful session of the input's lines
pub record IsOutputOf (input output : List ℕ) : Type 0 where
  pub session : Session
  pub lawful : IsLawful session
  pub lines : SpellsAll (lines_of input) session
  pub bytes : output ≡ output_of session

-- ---- where the input is known

-- its lines are those of the session
abbrev pub AreLinesOf : Option (List ℕ) → Session → Type 0
AreLinesOf None session = ⊤
AreLinesOf (Some input) session = SpellsAll (lines_of input) session

-- its first lines are those of the session, and these lines follow them
pub record FollowedBy (input : List ℕ) (session : Session) (more : List (List ℕ)) : Type 0 where
  pub lines : List (List ℕ)
  pub all : lines_of input ≡ lines ++ more
  pub spelled : SpellsAll lines session

-- its first lines are those of the session
abbrev pub BeginsWith : Option (List ℕ) → Session → Type 0
BeginsWith None session = ⊤
BeginsWith (Some input) session = (more : List (List ℕ)) × FollowedBy input session more

-- its first lines are those of the session, and another one follows
abbrev pub GoesOnAfter : Option (List ℕ) → Session → Type 0
GoesOnAfter None session = ⊤
GoesOnAfter (Some input) session = (line : List ℕ) × (more : List (List ℕ)) × FollowedBy input session (line ∷ more)

-- its first lines are those of the session, and the next one is outside the grammar
abbrev pub LeavesGrammarAfter : Option (List ℕ) → Session → Type 0
LeavesGrammarAfter None session = ⊤
LeavesGrammarAfter (Some input) session = (line : List ℕ) × (more : List (List ℕ)) × FollowedBy input session (line ∷ more) × ((l : ScriptLine) → SpellsLine line l → ⊥)

-- its first lines are those of the session, and the other lines are those of what is left
abbrev pub Fed : Option (List ℕ) → Option (List ℕ) → Session → Type 0
Fed None left session = ⊤
Fed (Some input) None session = ⊥
Fed (Some input) (Some left) session = FollowedBy input session (lines_of left)

-- each of the input's lines is one of the grammar, and they are at most so many
pub record IsScript (most : ℕ) (input : List ℕ) : Type 0 where
  pub each : AllByRecursion (λ bytes. (l : ScriptLine) × SpellsLine bytes l) (lines_of input)
  pub few : length (lines_of input) ≤ most
