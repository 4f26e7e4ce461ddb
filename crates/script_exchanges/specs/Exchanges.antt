-- What is written of the lines of a script whose parties can be driven, and the session that is fed to the machine.
use Rattle.std.specs.Prelude.{◌≡◌, ℕ, ◌≤◌, List, [], ◌∷◌, ◌++◌, length, codes, Option, Some, None, ⊤}
use Rattle.std.specs.List.{flat_map, AllByRecursion}
use Rattle.board_model.specs.Lines.{lines_of}
use Rattle.script_model.specs.ScriptGrammar.{script_spell}
use Rattle.script_model.specs.ScriptAnswers.{script_answer_line}
use Rattle.script_model.specs.ScriptSession.{Session}
use Rattle.script_model.specs.LawsOfComposition.{Pair}
use Rattle.script_exchanges.specs.declared.line.Drive.{Drive}
use Rattle.script_exchanges.specs.declared.line.DriveLine.{DriveLine}
use Rattle.script_exchanges.specs.DriveGrammar.{SpellsDrive, SpellsNoDrive}

-- ---- what is written

-- a line that was given to the machine, with its answer; or a line that the program says of its own
pub data Told : Type 0 where
  given : Pair → Told
  said : (text : List ℕ) → Told

-- a given line stands behind `> `, and its answer on the next line
abbrev pub told_text : Told → List ℕ
told_text (given pair) = codes "> " ++ (script_spell pair.0 ++ 10 ∷ script_answer_line pair.1)
told_text (said text) = text ++ 10 ∷ []

abbrev pub text_of : List Told → List ℕ
text_of told = flat_map told_text told

-- a line, and what is written of it
abbrev pub Exchange : Type 0
Exchange = DriveLine × List Told

abbrev pub Exchanges : Type 0
Exchanges = List Exchange

-- all that is written
abbrev pub output_of : Exchanges → List ℕ
output_of xs = flat_map (λ (x : Exchange). text_of x.1) xs

-- ---- the fed session

abbrev pub given_pairs : Told → Session
given_pairs (given pair) = pair ∷ []
given_pairs (said text) = []

-- the lines that were given, each with its answer
abbrev pub fed_by : List Told → Session
fed_by told = flat_map given_pairs told

abbrev pub fed_session : Exchanges → Session
fed_session xs = flat_map (λ (x : Exchange). fed_by x.1) xs

-- ---- the lines of an input

-- the bytes of each line are those of its exchange
abbrev pub SpellsAll : Drive → List (List ℕ) → Exchanges → Type 0
SpellsAll d [] [] = Unit {0}
SpellsAll d (bytes ∷ more) (x ∷ xs) = SpellsDrive d bytes x.0 × SpellsAll d more xs
SpellsAll d [] (x ∷ xs) = ⊥
SpellsAll d (bytes ∷ more) [] = ⊥

-- its lines are those of the exchanges
abbrev pub AreLinesOf : Drive → Option (List ℕ) → Exchanges → Type 0
AreLinesOf d None xs = ⊤
AreLinesOf d (Some input) xs = SpellsAll d (lines_of input) xs

-- its first lines are those of the exchanges, and these lines follow them
pub record FollowedBy (d : Drive) (input : List ℕ) (xs : Exchanges) (more : List (List ℕ)) : Type 0 where
  pub lines : List (List ℕ)
  pub all : lines_of input ≡ lines ++ more
  pub spelled : SpellsAll d lines xs

-- its first lines are those of the exchanges
abbrev pub BeginsWith : Drive → Option (List ℕ) → Exchanges → Type 0
BeginsWith d None xs = ⊤
BeginsWith d (Some input) xs = (more : List (List ℕ)) × FollowedBy d input xs more

-- and another one follows
abbrev pub GoesOnAfter : Drive → Option (List ℕ) → Exchanges → Type 0
GoesOnAfter d None xs = ⊤
GoesOnAfter d (Some input) xs = (line : List ℕ) × (more : List (List ℕ)) × FollowedBy d input xs (line ∷ more)

-- and the next one is outside the grammar
abbrev pub LeavesGrammarAfter : Drive → Option (List ℕ) → Exchanges → Type 0
LeavesGrammarAfter d None xs = ⊤
LeavesGrammarAfter d (Some input) xs = (line : List ℕ) × (more : List (List ℕ)) × FollowedBy d input xs (line ∷ more) × SpellsNoDrive d line

-- and the other lines are those of what is left
abbrev pub Answered : Drive → Option (List ℕ) → Option (List ℕ) → Exchanges → Type 0
Answered d None left xs = ⊤
Answered d (Some input) None xs = ⊥
Answered d (Some input) (Some left) xs = FollowedBy d input xs (lines_of left)

-- each of the input's lines is one of the grammar, and they are at most so many
pub record IsDriveScript (d : Drive) (most : ℕ) (input : List ℕ) : Type 0 where
  pub each : AllByRecursion (λ bytes. (l : DriveLine) × SpellsDrive d bytes l) (lines_of input)
  pub few : length (lines_of input) ≤ most
