-- The fed session of an output, read off its bytes; and all that the output tells.
use Rattle.std.specs.Prelude.{◌≡◌, ℕ, Bool, false, if◌then◌else◌, List, [], ◌∷◌, map, take, drop, codes}
use Rattle.std.specs.List.{AllByRecursion, flat_map}
use Rattle.std.specs.Str.{bytes_eq}
use Rattle.board_model.specs.Lines.{IsOneLine, lines_of}
use Rattle.script_model.specs.LawsOfComposition.{Pair}
use Rattle.script_model.specs.ScriptAnswers.{script_answer_text}
use Rattle.script_model.specs.ScriptGrammar.{script_spell}
use Rattle.script_exchanges.specs.Exchanges.{Exchange, Exchanges, Told, fed_session, given, output_of, said}

-- the line is written behind `> `
abbrev pub is_given : List ℕ → Bool
is_given line = bytes_eq (take 2 line) (codes "> ")

-- the lines behind `> `, each paired with the line that follows it
abbrev pub given_lines : List (List ℕ) → List (List ℕ × List ℕ)
given_lines [] = []
given_lines (x ∷ []) = []
given_lines (x ∷ y ∷ more) = if is_given x then (drop 2 x, y) ∷ given_lines (y ∷ more) else given_lines (y ∷ more)

-- the bytes of a line, and those of its answer
abbrev pub pair_texts : Pair → List ℕ × List ℕ
pair_texts pair = (script_spell pair.0, script_answer_text pair.1)

-- the fed session stands so in the output
abbrev pub IsFedAsWritten : Exchanges → Type 0
IsFedAsWritten xs = given_lines (lines_of (output_of xs)) ≡ map pair_texts (fed_session xs)

-- ---- the whole output

-- a line that was given, with its answer; or one that the program says of its own
pub data Written : Type 0 where
  answered : (line answer : List ℕ) → Written
  alone : (text : List ℕ) → Written

-- lines, read one after another
abbrev pub read_lines : List (List ℕ) → List Written
read_lines [] = []
read_lines (x ∷ []) = alone x ∷ []
read_lines (x ∷ y ∷ more) = if is_given x then answered (drop 2 x) y ∷ read_lines more else alone x ∷ read_lines (y ∷ more)

-- the bytes of what is told
abbrev pub texts_of : Told → Written
texts_of (given pair) = answered (script_spell pair.0) (script_answer_text pair.1)
texts_of (said text) = alone text

-- all that is told, in order
abbrev pub told_of : Exchanges → List Told
told_of xs = flat_map (λ (x : Exchange). x.1) xs

-- the output is read back so
abbrev pub IsReadBack : Exchanges → Type 0
IsReadBack xs = read_lines (lines_of (output_of xs)) ≡ map texts_of (told_of xs)

-- ---- what is told, where nothing that is said looks like a line that was given

-- each line of it is one line, and none that is said begins as given lines do
abbrev pub IsClear : Told → Type 0
IsClear (given pair) = IsOneLine (script_spell pair.0) × IsOneLine (script_answer_text pair.1)
IsClear (said text) = IsOneLine text × (is_given text ≡ false)

abbrev pub AreClear : List Told → Type 0
AreClear told = AllByRecursion IsClear told

-- all that is told of these exchanges is so
abbrev pub AllIsClear : Exchanges → Type 0
AllIsClear xs = AllByRecursion (λ (x : Exchange). AreClear x.1) xs

-- then the fed session stands in the output
abbrev pub FedSessionsAreFound : Type 0
FedSessionsAreFound = (xs : Exchanges) → AllIsClear xs → IsFedAsWritten xs

-- and the output is read back
abbrev pub OutputsAreReadBack : Type 0
OutputsAreReadBack = (xs : Exchanges) → AllIsClear xs → IsReadBack xs
