-- Which rule a pair of a line and its answer breaks.
use Rattle.std.specs.Prelude.{◌≡◌, ℕ, not, if◌then◌else◌, List, Option, Some, None}
use Rattle.script_model.specs.declared.line.ScriptLine.{ScriptLine}
use Rattle.script_model.specs.ScriptGrammar.{SpellsLine}
use Rattle.script_model.specs.ScriptAnswers.{ScriptAnswer, script_answer_text}
use Rattle.script_model.specs.ScriptTurns.{ScriptState}
use Rattle.script_model.specs.ScriptSession.{IsRight}
use Rattle.script_rules.specs.declared.rule.Rule.{Rule}
use Rattle.script_rules.specs.declared.rule.Rule.TheVariants as rule
use Rattle.script_rules.specs.PrintedAnswers.{SpellsAnswer}
use Rattle.script_rules.specs.AnswerGroups.{Groups, groups_of, refusal_of, same_tokens, tokens_of}

-- ---- an answer

-- the rule of the first group in which an answer differs from the right one
abbrev pub first_group : Groups → Groups → Option Rule
first_group right x =
    if not (same_tokens right.owed x.owed) then Some rule.Owed else
    if not (same_tokens right.word x.word) then Some rule.Word else
    if not (same_tokens right.event x.event) then Some rule.Event else
    if not (same_tokens right.reply x.reply) then Some rule.Reply else
    None

-- the rule that an answer to the line breaks where another one is right, if it breaks one
abbrev pub broken_rule : ScriptLine → List ℕ → List ℕ → Option Rule
broken_rule l right text =
    if not (same_tokens (refusal_of (tokens_of right)) (refusal_of (tokens_of text))) then Some rule.Reason else
    first_group (groups_of l (tokens_of right)) (groups_of l (tokens_of text))

-- an answer breaks no rule exactly where it is the right one
pub record BreaksNoneWhereRight : Type 0 where
  pub none : (l : ScriptLine) (right text : List ℕ) → broken_rule l right text ≡ None → right ≡ text
  pub right : (l : ScriptLine) (text : List ℕ) → broken_rule l text text ≡ None

-- ---- a pair

-- the bytes are a line of the grammar
abbrev pub IsLineText : List ℕ → Type 0
IsLineText text = (l : ScriptLine) × SpellsLine text l

-- there is an answer to the n-th line, and its bytes are of the answer grammar
abbrev pub IsAnswerText : ℕ → Option (List ℕ) → Type 0
IsAnswerText n None = ⊥
IsAnswerText n (Some text) = SpellsAnswer n text

-- the pair's answer is the right one to its line
pub record IsRightPair (s : ScriptState) (text : List ℕ) (answer : Option (List ℕ)) : Type 0 where
  pub line : ScriptLine
  pub spelled : SpellsLine text line
  pub right : ScriptAnswer
  pub is_right : IsRight s line right
  pub is : answer ≡ Some (script_answer_text right)

-- both are of their grammars, and this is the first rule in which the answer differs from the right one
pub record Differs (s : ScriptState) (n : ℕ) (text : List ℕ) (answer : Option (List ℕ)) (r : Rule) : Type 0 where
  pub line : ScriptLine
  pub spelled : SpellsLine text line
  pub formed : IsAnswerText n answer
  pub right : ScriptAnswer
  pub is_right : IsRight s line right
  pub printed : List ℕ
  pub is : answer ≡ Some printed
  pub broken : broken_rule line (script_answer_text right) printed ≡ Some r

-- the n-th pair breaks the rule, where the session so far has led to this state
abbrev pub Breaks : ScriptState → ℕ → List ℕ → Option (List ℕ) → Rule → Type 0
Breaks s n text answer rule.Line = IsLineText text → ⊥
Breaks s n text answer rule.Answer = IsLineText text × (IsAnswerText n answer → ⊥)
Breaks s n text answer rule.Reason = Differs s n text answer rule.Reason
Breaks s n text answer rule.Owed = Differs s n text answer rule.Owed
Breaks s n text answer rule.Word = Differs s n text answer rule.Word
Breaks s n text answer rule.Event = Differs s n text answer rule.Event
Breaks s n text answer rule.Reply = Differs s n text answer rule.Reply
