-- Laws of board lines and of the answers to them.
use Rattle.std.specs.Prelude.{◌≡◌, ℕ, List}
use Rattle.board_model.specs.declared.line.Line.{Line}
use Rattle.board_model.specs.declared.answer.Answer.{Answer}
use Rattle.board_model.specs.LineGrammar.{IsLine, Spells, spell}
use Rattle.board_model.specs.AnswerGrammar.{IsAnswer, answer_text}
use Rattle.board_model.specs.Lines.{IsOneLine}

-- bytes spell at most one board line
abbrev pub BytesSpellOneBoardLine : Type 0
BytesSpellOneBoardLine = (bytes : List ℕ) (k l : Line) → Spells bytes k → Spells bytes l → k ≡ l

-- lines are told apart by their bytes, however long these are
abbrev pub FormsAreSpelledApart : Type 0
FormsAreSpelledApart = (k l : Line) → IsLine k → IsLine l → spell k ≡ spell l → k ≡ l

-- no answer holds a newline
abbrev pub AnswersHoldNoNewline : Type 0
AnswersHoldNoNewline = (a : Answer) → IsAnswer a → IsOneLine (answer_text a)
