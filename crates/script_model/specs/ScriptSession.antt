-- Which answers a script may be given: the lawful sessions of boards and events.
use Rattle.std.specs.Prelude.{◌≡◌, List, [], ◌∷◌, map, Option, Some, None}
use Rattle.board_model.specs.declared.answer.Answer.{Answer}
use Rattle.board_model.specs.declared.answer.Answer.TheVariants as answer
use Rattle.board_model.specs.declared.line.Line.{Line}
use Rattle.board_model.specs.declared.line.Line.TheVariants as board_line
use Rattle.board_model.specs.LawfulSession as boards
use Rattle.script_model.specs.declared.line.ScriptLine.{ScriptLine}
use Rattle.script_model.specs.declared.line.ScriptLine.TheVariants as line
use Rattle.script_model.specs.ScriptGrammar.{IsScriptLine}
use Rattle.script_model.specs.ScriptAnswers.{IsScriptAnswer, ScriptAnswer, of_boards}
use Rattle.script_model.specs.ScriptEvents.{ScriptEvents, events_abandoned, no_events}
use Rattle.script_model.specs.ScriptRules.{IsEvent, IsOwed, IsReasoned, IsReplied, IsWord, script_reason}
use Rattle.script_model.specs.ScriptTurns.{EventTurn, ScriptState, turn_of, turned}

-- before the first line
abbrev pub start : ScriptState
start = record { boards = boards.start; events = no_events }

-- the answer is right where the session so far has led to this state; the first rule that fails is the one that is broken
pub record IsRight (s : ScriptState) (l : ScriptLine) (a : ScriptAnswer) : Type 0 where
  pub line : IsScriptLine l
  pub answer : IsScriptAnswer a
  pub reason : IsReasoned (script_reason s l) a
  pub owed : script_reason s l ≡ None → IsOwed s l (turn_of s l) a
  pub word : script_reason s l ≡ None → IsWord s l (turn_of s l) a
  pub event : script_reason s l ≡ None → IsEvent s (turn_of s l) a
  pub reply : script_reason s l ≡ None → IsReplied s l (turn_of s l) a

-- ---- what follows

-- the events after a line of boards: the abandonment of a party is one of its calls on events too
abbrev pub after_boards : ScriptEvents → Line → Answer → ScriptEvents
after_boards x (board_line.Abandon party) answer.Gone = events_abandoned x party
after_boards x l a = x

-- after a line that was answered so
abbrev pub after_turn : ScriptState → ScriptLine → ScriptAnswer → Option EventTurn → ScriptState
after_turn s l a (Some t) = record s { events = turned s.events t a }
after_turn s (line.Board l) (of_boards a) None = record { boards = boards.after s.boards l a; events = after_boards s.events l a }
after_turn s l a None = s

abbrev pub after : ScriptState → ScriptLine → ScriptAnswer → ScriptState
after s l a = after_turn s l a (turn_of s l)

-- ---- sessions

-- lines with their answers
abbrev pub Session : Type 0
Session = List (ScriptLine × ScriptAnswer)

-- after a session that began in this state
abbrev pub state_after : ScriptState → Session → ScriptState
state_after s [] = s
state_after s (pair ∷ pairs) = state_after (after s pair.0 pair.1) pairs

-- each answer is right after the lines before it
abbrev pub IsLawfulFrom : ScriptState → Session → Type 0
IsLawfulFrom s [] = Unit {0}
IsLawfulFrom s (pair ∷ pairs) = IsRight s pair.0 pair.1 × IsLawfulFrom (after s pair.0 pair.1) pairs

-- a session from the start in which each answer is right
abbrev pub IsLawful : Session → Type 0
IsLawful pairs = IsLawfulFrom start pairs

-- what was asked in a session, without the answers
abbrev pub asked_lines : Session → List ScriptLine
asked_lines pairs = map (λ (pair : ScriptLine × ScriptAnswer). pair.0) pairs
