-- Laws of pairs: one verdict on each, and on a whole session of them.
use Rattle.std.specs.Prelude.{◌≡◌, ℕ, ◌+◌, ◌^◌, ◌<◌, List, [], ◌∷◌, ◌++◌, length, Option, ◌⊎◌}
use Rattle.script_model.specs.declared.line.ScriptLine.{ScriptLine}
use Rattle.script_model.specs.ScriptGrammar.{SpellsLine}
use Rattle.script_model.specs.ScriptAnswers.{ScriptAnswer, script_answer_text}
use Rattle.script_model.specs.ScriptTurns.{ScriptState}
use Rattle.script_model.specs.ScriptSession.{IsLawful, IsRight, Session, start, state_after}
use Rattle.script_rules.specs.declared.rule.Rule.{Rule}
use Rattle.script_rules.specs.PrintedAnswers.{SpellsAnswer}
use Rattle.script_rules.specs.BrokenRules.{Breaks, IsAnswerText, IsLineText, IsRightPair}
use Rattle.script_rules.specs.SessionPairs.{AreLawful, BreaksAt, SpellsPairs}

-- no pair breaks two rules
abbrev pub OneRuleIsBroken : Type 0
OneRuleIsBroken = (s : ScriptState) (n : ℕ) (text : List ℕ) (answer : Option (List ℕ)) (r q : Rule) → Breaks s n text answer r → Breaks s n text answer q → r ≡ q

-- and none that is right, and of the answer grammar, breaks one
abbrev pub RightPairsBreakNone : Type 0
RightPairsBreakNone = (s : ScriptState) (n : ℕ) (text : List ℕ) (answer : Option (List ℕ)) (r : Rule) → IsRightPair s text answer → IsAnswerText n answer → Breaks s n text answer r → ⊥

-- after a lawful session, a pair of both grammars is right or breaks a rule
abbrev pub EachPairIsJudged : Type 0
EachPairIsJudged = (pairs : Session) (n : ℕ) (text : List ℕ) (answer : Option (List ℕ)) → IsLawful pairs → length pairs < 2 ^ 63 → IsLineText text → IsAnswerText n answer
    → IsRightPair (state_after start pairs) text answer ⊎ ((r : Rule) × Breaks (state_after start pairs) n text answer r)

-- no lines have two verdicts
pub record OneVerdict : Type 0 where
  pub broken : (lines : List (List ℕ)) (m n : ℕ) (r q : Rule) → BreaksAt lines m r → BreaksAt lines n q → (m ≡ n) × (r ≡ q)
  pub lawful : (lines : List (List ℕ)) (m n : ℕ) → AreLawful lines m → AreLawful lines n → m ≡ n
  pub apart : (lines : List (List ℕ)) (m n : ℕ) (r : Rule) → AreLawful lines m → BreaksAt lines n r → ⊥

-- a loop reads one pair more: the session goes on with a right answer of the grammar
abbrev pub SessionsGoOn : Type 0
SessionsGoOn = (n : ℕ) (lines : List (List ℕ)) (pairs : Session) (text answer : List ℕ) (l : ScriptLine) (right : ScriptAnswer) → IsLawful pairs → SpellsPairs n lines pairs
    → SpellsLine text l → IsRight (state_after start pairs) l right → answer ≡ script_answer_text right → SpellsAnswer (n + length pairs) answer
    → IsLawful (pairs ++ (l, right) ∷ []) × SpellsPairs n (lines ++ text ∷ answer ∷ []) (pairs ++ (l, right) ∷ [])
