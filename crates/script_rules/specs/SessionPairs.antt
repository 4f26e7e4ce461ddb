-- Sessions as a checker reads them: a line and its answer in turn.
use Rattle.std.specs.Prelude.{◌≡◌, ℕ, ◌+◌, List, [], ◌∷◌, ◌++◌, length, Option, Some, None}
use Rattle.script_model.specs.ScriptGrammar.{SpellsLine}
use Rattle.script_model.specs.ScriptAnswers.{script_answer_text}
use Rattle.script_model.specs.ScriptSession.{IsLawful, Session, start, state_after}
use Rattle.script_rules.specs.declared.rule.Rule.{Rule}
use Rattle.script_rules.specs.PrintedAnswers.{SpellsAnswer}
use Rattle.script_rules.specs.BrokenRules.{Breaks}

-- the lines are those of the session, each followed by its answer, which is of the answer grammar; its first pair is the n-th
abbrev pub SpellsPairs : ℕ → List (List ℕ) → Session → Type 0
SpellsPairs n [] [] = Unit {0}
SpellsPairs n [] (pair ∷ pairs) = ⊥
SpellsPairs n (text ∷ []) pairs = ⊥
SpellsPairs n (text ∷ answer ∷ more) [] = ⊥
SpellsPairs n (text ∷ answer ∷ more) (pair ∷ pairs) = SpellsLine text pair.0 × (answer ≡ script_answer_text pair.1) × SpellsAnswer n answer × SpellsPairs (n + 1) more pairs

-- they are a lawful session of this many pairs
pub record AreLawful (lines : List (List ℕ)) (count : ℕ) : Type 0 where
  pub session : Session
  pub lawful : IsLawful session
  pub spelled : SpellsPairs 1 lines session
  pub counted : length session ≡ count

-- what follows a line: its answer, if there is one
abbrev pub next_line : List (List ℕ) → Option (List ℕ)
next_line [] = None
next_line (x ∷ xs) = Some x

-- the pairs before the n-th one are a lawful session, and that one breaks the rule
pub record BreaksAt (lines : List (List ℕ)) (n : ℕ) (r : Rule) : Type 0 where
  pub before : List (List ℕ)
  pub text : List ℕ
  pub rest : List (List ℕ)
  pub cut : lines ≡ before ++ text ∷ rest
  pub session : Session
  pub lawful : IsLawful session
  pub spelled : SpellsPairs 1 before session
  pub number : n ≡ length session + 1
  pub breaks : Breaks (state_after start session) n text (next_line rest) r
