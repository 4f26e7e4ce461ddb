-- Laws of answers: a line has at most one right answer, and a list of lines at most one lawful session.
use Rattle.std.specs.Prelude.{◌≡◌, List, map}
use Rattle.board_model.specs.declared.answer.Answer.{Answer}
use Rattle.board_model.specs.declared.line.Line.{Line}
use Rattle.board_model.specs.LawfulSession.{IsLawful, IsRight, Session, State}

-- after the same lines, a line has no two right answers
abbrev pub OneRightAnswer : Type 0
OneRightAnswer = (s : State) (l : Line) (a b : Answer) → IsRight s l a → IsRight s l b → a ≡ b

-- what was asked in a session, without the answers
abbrev pub lines_asked : Session → List Line
lines_asked pairs = map (λ (pair : Line × Answer). pair.0) pairs

-- the lines of a lawful session settle all of its answers
abbrev pub OneLawfulSession : Type 0
OneLawfulSession = (xs ys : Session) → IsLawful xs → IsLawful ys → lines_asked xs ≡ lines_asked ys → xs ≡ ys
