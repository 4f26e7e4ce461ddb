-- What becomes of the lines of a plain script while parties are driven.
use Rattle.std.specs.Prelude.{◌≡◌, ℕ, List, ◌++◌, Option, Some, None}
use Rattle.script_model.specs.declared.line.ScriptLine.{ScriptLine}
use Rattle.script_model.specs.ScriptAnswers.{ScriptAnswer, is_refused}
use Rattle.script_model.specs.ScriptTurns.{ScriptState}
use Rattle.script_loop.specs.Machines.{AnswersEach}
use Rattle.script_exchanges.specs.DrivenParties.{abandoned_by, held_back, if_kept, let_go, party_text}
use Rattle.script_exchanges.specs.Exchanges.{said, told_text}
use Rattle.script_feed.specs.declared.driven.Driven.{Driven}
use Rattle.script_feed.specs.AnswerLooks.{IsAnswerOf}
use Rattle.script_feed.specs.Given.{given_text}
use Rattle.script_feed.specs.KeptOf.{kept_of}

-- this is said of a party whose line is held back, and nothing changes
pub record IsHeldBack {M T : Type 0} (old new : Driven M T) (word party before text : List ℕ) : Type 0 where
  pub same : new ≡ old
  pub told : text ≡ before ++ told_text (said (party_text word party))

-- the line is given, and written with its answer, which is right; an abandonment that isn't refused ends what is kept of its party
pub record IsGiven {M T : Type 0} (stands : M → ℕ → ScriptState → Type 0) (old new : Driven M T) (l : ScriptLine) (line before text : List ℕ) : Type 0 where
  pub answered : AnswersEach stands old.machine new.machine line new.answer.items
  pub kept : (a : ScriptAnswer) → IsAnswerOf new.answer.items a → (p : List ℕ) → kept_of new.kept p ≡ let_go (kept_of old.kept) (abandoned_by l) (is_refused a) p
  pub told : text ≡ before ++ given_text line new.answer.items

-- the line is held back for this party, or it is given
abbrev pub IsAnswered : {M T : Type 0} → (M → ℕ → ScriptState → Type 0) → Driven M T → Driven M T → List ℕ → ScriptLine → List ℕ → List ℕ → List ℕ → Option (List ℕ) → Type 0
IsAnswered stands old new word l line before text (Some party) = IsHeldBack old new word party before text
IsAnswered stands old new word l line before text None = IsGiven stands old new l line before text

-- the line is held back where the party that it names is driven
abbrev pub AnswersPlain : {M T : Type 0} → (M → ℕ → ScriptState → Type 0) → Driven M T → Driven M T → List ℕ → ScriptLine → List ℕ → List ℕ → List ℕ → Type 0
AnswersPlain stands old new word l line before text = IsAnswered stands old new word l line before text (if_kept (kept_of old.kept) (held_back l))
