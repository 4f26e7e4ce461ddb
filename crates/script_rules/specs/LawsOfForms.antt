-- Laws of forms: the rules but that of the answer grammar give this one too.
use Rattle.std.specs.Prelude.{◌≡◌, ◌^◌, ◌<◌, length, None}
use Rattle.script_model.specs.declared.line.ScriptLine.{ScriptLine}
use Rattle.script_model.specs.ScriptGrammar.{IsScriptLine}
use Rattle.script_model.specs.ScriptAnswers.{IsScriptAnswer, ScriptAnswer}
use Rattle.script_model.specs.ScriptRules.{IsEvent, IsOwed, IsReasoned, IsReplied, IsWord, script_reason}
use Rattle.script_model.specs.ScriptTurns.{ScriptState, turn_of}
use Rattle.script_model.specs.ScriptSession.{IsLawful, Session, start, state_after}

-- all rules of an answer but that it is one of the answer grammar
pub record IsRightButForm (s : ScriptState) (l : ScriptLine) (a : ScriptAnswer) : Type 0 where
  pub line : IsScriptLine l
  pub reason : IsReasoned (script_reason s l) a
  pub owed : script_reason s l ≡ None → IsOwed s l (turn_of s l) a
  pub word : script_reason s l ≡ None → IsWord s l (turn_of s l) a
  pub event : script_reason s l ≡ None → IsEvent s (turn_of s l) a
  pub reply : script_reason s l ≡ None → IsReplied s l (turn_of s l) a

-- the other rules give that one, in a session of fewer than 2^63 pairs, on the lines of boards and of events alike
abbrev pub RightAnswersAreOfTheGrammar : Type 0
RightAnswersAreOfTheGrammar = (pairs : Session) (l : ScriptLine) (a : ScriptAnswer) → IsLawful pairs → length pairs < 2 ^ 63
    → IsRightButForm (state_after start pairs) l a → IsScriptAnswer a
