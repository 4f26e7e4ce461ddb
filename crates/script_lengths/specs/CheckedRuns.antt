-- What a checker reads of a run, its lines and its output in turn, is a lawful session of pairs.
use Rattle.std.specs.Prelude.{ℕ, ◌+◌, ◌^◌, ◌<◌, List, [], ◌∷◌, length}
use Rattle.board_model.specs.Lines.{lines_of}
use Rattle.script_model.specs.ScriptAnswers.{script_answer_text}
use Rattle.script_model.specs.ScriptSession.{IsLawful, Session}
use Rattle.script_model.specs.ScriptOutput.{IsOutputOf}
use Rattle.script_rules.specs.SessionPairs.{AreLawful}
use Rattle.script_rules.specs.PrintedAnswers.{SpellsAnswer}
use Rattle.script_lengths.specs.ScriptLengths.{HasShortLines}

-- the answers are the n-th of a session and those behind it, and none is longer than it may be
abbrev pub AreSpelledFrom : ℕ → Session → Type 0
AreSpelledFrom n [] = Unit {0}
AreSpelledFrom n (pair ∷ pairs) = SpellsAnswer n (script_answer_text pair.1) × AreSpelledFrom (n + 1) pairs

-- no answer of a lawful session is longer than it may be
abbrev pub SessionsAreSpelled : Type 0
SessionsAreSpelled = (pairs : Session) → IsLawful pairs → length pairs < 2 ^ 63 → HasShortLines pairs → AreSpelledFrom 1 pairs

-- each line with its answer behind it, while there are both
abbrev pub in_turn : List (List ℕ) → List (List ℕ) → List (List ℕ)
in_turn [] answers = []
in_turn (line ∷ lines) [] = []
in_turn (line ∷ lines) (answer ∷ answers) = line ∷ answer ∷ in_turn lines answers

-- the lines of an input and of its output, in turn, are a lawful session with a pair for each line
abbrev pub RunsAreLawful : Type 0
RunsAreLawful = (input output : List ℕ) → IsOutputOf input output → length (lines_of input) < 2 ^ 63 → AreLawful (in_turn (lines_of input) (lines_of output)) (length (lines_of input))
