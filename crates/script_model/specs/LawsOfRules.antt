-- Laws of the rules: an answer is right exactly where it is that of the line's turn.
use Rattle.std.specs.Prelude.{◌≡◌, ℕ, ◌<◌, ◌^◌, Option, Some, None}
use Rattle.board_model.specs.declared.answer.Answer.{Answer}
use Rattle.board_model.specs.declared.line.Line.{Line}
use Rattle.board_model.specs.LawfulSession as boards
use Rattle.script_model.specs.declared.line.ScriptLine.{ScriptLine}
use Rattle.script_model.specs.declared.line.ScriptLine.TheVariants as line
use Rattle.script_model.specs.ScriptAnswers.{IsScriptAnswer, ScriptAnswer, of_boards}
use Rattle.script_model.specs.ScriptGrammar.{IsScriptLine}
use Rattle.script_model.specs.ScriptSession.{IsRight}
use Rattle.script_model.specs.ScriptTurns.{EventTurn, IsTurnAnswer, ScriptState, turn_of}
use Rattle.script_model.specs.SoundEvents.{IsSoundScript}

-- the answer is right by the rules of boards
pub record IsBoardAnswer (s : ScriptState) (l : Line) (a : ScriptAnswer) : Type 0 where
  pub answer : Answer
  pub right : boards.IsRight s.boards l answer
  pub is : a ≡ of_boards answer

-- a line that is the boards' alone is answered by their rules, and any other by those of events
abbrev pub IsRuled : ScriptState → ScriptLine → ScriptAnswer → Option EventTurn → Type 0
IsRuled s l a (Some t) = IsTurnAnswer s.events t a
IsRuled s (line.Board l) a None = IsBoardAnswer s l a
IsRuled s (line.Event party q) a None = ⊥
IsRuled s (line.Expire party) a None = ⊥

-- the answer is that of the line's turn
pub record IsInTurn (s : ScriptState) (l : ScriptLine) (a : ScriptAnswer) : Type 0 where
  pub line : IsScriptLine l
  pub rule : IsRuled s l a (turn_of s l)

-- the rules ask for the answer of the line's turn, and for nothing more but the grammar of answers
pub record RulesAreTurns : Type 0 where
  pub in_turn : (s : ScriptState) (l : ScriptLine) (a : ScriptAnswer) → IsRight s l a → IsInTurn s l a
  pub by_rules : (s : ScriptState) (l : ScriptLine) (a : ScriptAnswer) → IsInTurn s l a → IsScriptAnswer a → IsRight s l a

-- and that is met: in a session of fewer than 2^63 pairs, the answer of a line's turn is of the grammar, so it is right
abbrev pub TurnsAreRight : Type 0
TurnsAreRight = (s : ScriptState) (l : ScriptLine) (a : ScriptAnswer) (n : ℕ) → IsSoundScript s n → n < 2 ^ 63 → IsInTurn s l a → IsRight s l a
