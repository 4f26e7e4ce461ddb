-- Laws of the lines of a script, those of events included: bytes say which line they are, and a right answer is one line of output.
use Rattle.std.specs.Prelude.{◌≡◌, ℕ, List}
use Rattle.board_model.specs.Lines.{IsOneLine}
use Rattle.script_model.specs.declared.line.ScriptLine.{ScriptLine}
use Rattle.script_model.specs.ScriptAnswers.{ScriptAnswer, script_answer_text}
use Rattle.script_model.specs.ScriptGrammar.{SpellsLine}
use Rattle.script_model.specs.ScriptSession.{IsRight}
use Rattle.script_model.specs.ScriptTurns.{ScriptState}
use Rattle.script_model.specs.SoundEvents.{IsSoundScript}

-- bytes spell at most one line, of boards or of events
abbrev pub BytesSpellOneLine : Type 0
BytesSpellOneLine = (bytes : List ℕ) (k l : ScriptLine) → SpellsLine bytes k → SpellsLine bytes l → k ≡ l

-- a right answer holds no newline
abbrev pub RightAnswersHoldNoNewline : Type 0
RightAnswersHoldNoNewline = (s : ScriptState) (l : ScriptLine) (a : ScriptAnswer) (n : ℕ) → IsSoundScript s n → IsRight s l a → IsOneLine (script_answer_text a)
