-- Laws of answers: a line of a script has at most one right answer, and a list of lines has at most one lawful session.
use Rattle.std.specs.Prelude.{◌≡◌}
use Rattle.script_model.specs.declared.line.ScriptLine.{ScriptLine}
use Rattle.script_model.specs.ScriptAnswers.{ScriptAnswer}
use Rattle.script_model.specs.ScriptTurns.{ScriptState}
use Rattle.script_model.specs.ScriptSession.{IsLawful, IsRight, Session, asked_lines}

-- after the same lines, a line has no two right answers
abbrev pub OneRightAnswer : Type 0
OneRightAnswer = (s : ScriptState) (l : ScriptLine) (a b : ScriptAnswer) → IsRight s l a → IsRight s l b → a ≡ b

-- the lines of a lawful session settle all of its answers
abbrev pub OneLawfulSession : Type 0
OneLawfulSession = (xs ys : Session) → IsLawful xs → IsLawful ys → asked_lines xs ≡ asked_lines ys → xs ≡ ys
