-- What a check of pairs comes to.
use Rattle.std.specs.Prelude.{◌≡◌, ◌≢◌, ◌⊎◌, ℕ, ◌+◌, ◌*◌, ◌≤◌, List, ◌∷◌, ◌++◌, length, IsSomeAnd, Option, Some, None, ⊤, Result, Err, IfOk, IsErr, IsErrOf, MatchResult}
use Rattle.std.specs.Io.KnownBytes.{IsAtEnd}
use Rattle.board_model.specs.Lines.{lines_of}
use Rattle.script_model.specs.declared.line.ScriptLine.{ScriptLine}
use Rattle.script_model.specs.ScriptAnswers.{ScriptAnswer, script_answer_line}
use Rattle.script_model.specs.ScriptSession.{IsRight, Session, after, start, state_after}
use Rattle.script_model.specs.ScriptTurns.{ScriptState}
use Rattle.script_loop.specs.Machines.{StandsFor}
use Rattle.script_rules.specs.declared.rule.Rule.{Rule}
use Rattle.script_rules.specs.declared.rule.Rule.TheVariants as rule
use Rattle.script_rules.specs.PrintedAnswers.{SpellsAnswer}
use Rattle.script_rules.specs.BrokenRules.{broken_rule}
use Rattle.script_rules.specs.SessionPairs.{AreLawful, BreaksAt}
use Rattle.script_pairs.specs.declared.verdict.Verdict.{Verdict}
use Rattle.script_pairs.specs.declared.verdict.Verdict.TheVariants.{Lawful, No}
use Rattle.script_pairs.specs.declared.verdict.CheckError.{CheckError}
use Rattle.script_pairs.specs.declared.verdict.CheckError.TheVariants.{TooLong}

-- ---- what knows the right answers

-- the text is the line of the right answer, and the tables stand for the session with this pair
pub record HasTold {T : Type 0} (stands : T → ℕ → ScriptState → Type 0) (new : T) (session : Session) (l : ScriptLine) (text : List ℕ) : Type 0 where
  pub answer : ScriptAnswer
  pub right : IsRight (state_after start session) l answer
  pub state : stands new (length session + 1) (after (state_after start session) l answer)
  pub told : text ≡ script_answer_line answer

-- so for each session that they stand for
abbrev pub TellsEach : {T : Type 0} → (T → ℕ → ScriptState → Type 0) → T → T → ScriptLine → List ℕ → Type 0
TellsEach stands old new l text = (session : Session) → StandsFor stands old session → HasTold stands new session l text

-- ---- an answer beside the right one

-- the first rule that an answer to the n-th line breaks, where the text of the right one is this: it is no answer, or differs so
abbrev pub IsBroken : ScriptLine → List ℕ → ℕ → List ℕ → Rule → Type 0
IsBroken l right n text r = ((SpellsAnswer n text → ⊥) × (r ≡ rule.Answer)) ⊎ (SpellsAnswer n text × (broken_rule l right text ≡ Some r))

-- ---- verdicts

-- the lines of the known bytes are a lawful session of so many pairs
abbrev pub AreLawfulIn : Option (List ℕ) → ℕ → Type 0
AreLawfulIn None n = ⊤
AreLawfulIn (Some bytes) n = AreLawful (lines_of bytes) n

-- the n-th pair of the known bytes breaks the rule, and the pairs before are lawful
abbrev pub BreaksIn : Option (List ℕ) → ℕ → Rule → Type 0
BreaksIn None n r = ⊤
BreaksIn (Some bytes) n r = BreaksAt (lines_of bytes) n r

-- so many pairs are lawful, and another line follows
pub record GoOnAfter (limit : ℕ) (lines : List (List ℕ)) : Type 0 where
  pub before : List (List ℕ)
  pub next : List ℕ
  pub more : List (List ℕ)
  pub cut : lines ≡ before ++ next ∷ more
  pub lawful : AreLawful before limit

-- the same, where the bytes are known
abbrev pub GoesOnIn : ℕ → Option (List ℕ) → Type 0
GoesOnIn limit None = ⊤
GoesOnIn limit (Some bytes) = GoOnAfter limit (lines_of bytes)

-- what a verdict says of the known bytes
abbrev pub IsVerdict : ℕ → Option (List ℕ) → Verdict → Type 0
IsVerdict limit bytes (Lawful n) = (n ≤ limit) × AreLawfulIn bytes n
IsVerdict limit bytes (No n r) = (n ≤ limit) × BreaksIn bytes n r

-- lawful are all the lines that there were: no byte of those that are known is left
abbrev pub IsReadToEnd : Verdict → Option (List ℕ) → Type 0
IsReadToEnd (Lawful n) left = IsAtEnd left
IsReadToEnd (No n r) left = ⊤

-- the result is this verdict, unless the source failed or memory was refused
abbrev pub Tells : Verdict → Result Verdict CheckError → Type 0
Tells v result = MatchResult result (λ w. w ≡ v) (λ e. e ≢ TooLong)

-- the bytes are known, and have no more lines than so many pairs
abbrev pub HasLinesOf : ℕ → Option (List ℕ) → Type 0
HasLinesOf limit bytes = IsSomeAnd bytes (λ known. length (lines_of known) ≤ 2 * limit)

-- what a check of these bytes for at most so many pairs comes to
pub record Checks (limit : ℕ) (bytes : Option (List ℕ)) (result : Result Verdict CheckError) : Type 0 where
  -- a verdict is true, and so is that another line follows the last pair that is allowed
  pub verdict : IfOk result (IsVerdict limit bytes)
  pub too_long : IsErrOf result TooLong → GoesOnIn limit bytes
  -- and each is told where it is true
  pub lawful : (n : ℕ) → n ≤ limit → IsSomeAnd bytes (λ known. AreLawful (lines_of known) n) → Tells (Lawful n) result
  pub broken : (n : ℕ) (r : Rule) → n ≤ limit → IsSomeAnd bytes (λ known. BreaksAt (lines_of known) n r) → Tells (No n r) result
  pub goes_on : IsSomeAnd bytes (λ known. GoOnAfter limit (lines_of known)) → IsErr result
  -- too many are told nowhere where the lines are no more than those of the pairs that are allowed
  pub few : HasLinesOf limit bytes → result ≢ Err TooLong
