-- Words without ids, which a wait passes over.
use Rattle.std.specs.Prelude.{◌≡◌, ℕ, zero, suc, ◌+◌, ◌<◌, ◌≤◌, Option, Some, None}
use Rattle.std.specs.FinSet as set
use Rattle.board_event_model.specs.declared.access.EventAnswer.TheVariants as answer
use Rattle.board_event_model.specs.declared.call.WaitStage.{WaitStage}
use Rattle.board_event_model.specs.declared.call.WaitStage.TheVariants as wait
use Rattle.board_event_model.specs.Ids.{Ids, IsWord}
use Rattle.board_event_model.specs.EventMemory.{Event}
use Rattle.board_event_model.specs.WaitCalls.{Wait}
use Rattle.board_event_core.specs.Turns.{wait_went_on}

-- the word that a wait is to look at, where it is to look at one
abbrev pub word_of : WaitStage → Option ℕ
word_of (wait.Scan k) = Some k
word_of (wait.Swap k some) = Some k
word_of _ = None

-- the same, and 0 where it is to look at none
abbrev pub word_at : WaitStage → ℕ
word_at (wait.Scan k) = k
word_at (wait.Swap k some) = k
word_at _ = 0

-- the ids of an event, where it stands
abbrev pub ids_at : Option Event → Ids
ids_at None = set.empty
ids_at (Some e) = e.pending

-- no word from this one on has ids, up to the other
abbrev pub NoneBetween : Ids → ℕ → ℕ → Type 0
NoneBetween ids word other = (k : ℕ) → word ≤ k → k < other → IsWord ids k 0

-- a wait after so many answers that a word has no ids
abbrev pub passed : ℕ → Wait → Wait
passed zero call = call
passed (suc n) call = passed n (wait_went_on call (answer.Word 0))

-- the wait goes on as it would with answers that words have no ids, to this word at most
pub record GoesOnTo (other : ℕ) (call next : Wait) : Type 0 where
  pub count : ℕ
  pub within : word_at call.stage + count ≤ other
  pub after : next ≡ passed count call

-- the wait goes on as it would with the answers to its looks at so many words, none of which has ids
pub record PassesOver (ids : Ids) (call next : Wait) : Type 0 where
  pub count : ℕ
  pub none : NoneBetween ids (word_at call.stage) (word_at call.stage + count)
  pub after : next ≡ passed count call
