-- Laws of forms: each line of the grammar has a right answer.
use Rattle.std.specs.Prelude.{◌≡◌, ◌^◌, ◌<◌, List, length}
use Rattle.std.specs.List.{AllByRecursion}
use Rattle.script_model.specs.declared.line.ScriptLine.{ScriptLine}
use Rattle.script_model.specs.ScriptGrammar.{IsScriptLine}
use Rattle.script_model.specs.ScriptAnswers.{ScriptAnswer}
use Rattle.script_model.specs.ScriptSession.{IsLawful, IsRight, Session, asked_lines, start, state_after}

-- after a session, each line of the grammar has a right answer: the rules never contradict each other
abbrev pub EachLineHasAnAnswer : Type 0
EachLineHasAnAnswer = (pairs : Session) (l : ScriptLine) → IsLawful pairs → length pairs < 2 ^ 63 → IsScriptLine l → (a : ScriptAnswer) × IsRight (state_after start pairs) l a

-- and each list of such lines has a lawful session
abbrev pub EachScriptHasASession : Type 0
EachScriptHasASession = (lines : List ScriptLine) → AllByRecursion IsScriptLine lines → length lines < 2 ^ 63 → (pairs : Session) × IsLawful pairs × (asked_lines pairs ≡ lines)
