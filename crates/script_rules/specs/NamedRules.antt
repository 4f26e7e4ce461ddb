-- The rules by name: what each asks of an answer, and that the text of an answer which keeps a rule and those before it doesn't break it.
use Rattle.std.specs.Prelude.{◌≡◌, ℕ, ◌≤◌, Some, None}
use Rattle.script_model.specs.declared.line.ScriptLine.{ScriptLine}
use Rattle.script_model.specs.ScriptGrammar.{IsScriptLine}
use Rattle.script_model.specs.ScriptAnswers.{IsScriptAnswer, ScriptAnswer, script_answer_text}
use Rattle.script_model.specs.ScriptRules.{IsEvent, IsOwed, IsReasoned, IsReplied, IsWord, script_reason}
use Rattle.script_model.specs.ScriptTurns.{ScriptState, turn_of}
use Rattle.script_model.specs.ScriptSession.{IsRight}
use Rattle.script_rules.specs.declared.rule.Rule.{Rule}
use Rattle.script_rules.specs.declared.rule.Rule.TheVariants as rule
use Rattle.script_rules.specs.BrokenRules.{broken_rule}

-- what a rule asks of the answer to a line
abbrev pub KeepsRule : ScriptState → ScriptLine → ScriptAnswer → Rule → Type 0
KeepsRule s l a rule.Line = IsScriptLine l
KeepsRule s l a rule.Answer = IsScriptAnswer a
KeepsRule s l a rule.Reason = IsReasoned (script_reason s l) a
KeepsRule s l a rule.Owed = script_reason s l ≡ None → IsOwed s l (turn_of s l) a
KeepsRule s l a rule.Word = script_reason s l ≡ None → IsWord s l (turn_of s l) a
KeepsRule s l a rule.Event = script_reason s l ≡ None → IsEvent s (turn_of s l) a
KeepsRule s l a rule.Reply = script_reason s l ≡ None → IsReplied s l (turn_of s l) a

-- the place of a rule in the order in which they are looked at
abbrev pub place : Rule → ℕ
place rule.Line = 0
place rule.Answer = 1
place rule.Reason = 2
place rule.Owed = 3
place rule.Word = 4
place rule.Event = 5
place rule.Reply = 6

-- the answer keeps the rule and each one before it
abbrev pub KeepsUpTo : ScriptState → ScriptLine → ScriptAnswer → Rule → Type 0
KeepsUpTo s l a r = (q : Rule) → place q ≤ place r → KeepsRule s l a q

-- an answer is right exactly where it keeps all rules
pub record RightAnswersKeepAll : Type 0 where
  pub keeps : (s : ScriptState) (l : ScriptLine) (a : ScriptAnswer) (r : Rule) → IsRight s l a → KeepsRule s l a r
  pub right : (s : ScriptState) (l : ScriptLine) (a : ScriptAnswer) → ((r : Rule) → KeepsRule s l a r) → IsRight s l a

-- no answer whose text breaks a rule keeps this rule and all before it, whatever else is printed so
abbrev pub BrokenRulesAreNamed : Type 0
BrokenRulesAreNamed = (s : ScriptState) (l : ScriptLine) (right a : ScriptAnswer) (r : Rule) → IsRight s l right → broken_rule l (script_answer_text right) (script_answer_text a) ≡ Some r → KeepsUpTo s l a r → ⊥

-- and the rule of reasons is broken wherever the answer doesn't keep it
abbrev pub ReasonsAreJudged : Type 0
ReasonsAreJudged = (s : ScriptState) (l : ScriptLine) (right a : ScriptAnswer) → IsRight s l right → IsScriptAnswer a → (KeepsRule s l a rule.Reason → ⊥) → broken_rule l (script_answer_text right) (script_answer_text a) ≡ Some rule.Reason
