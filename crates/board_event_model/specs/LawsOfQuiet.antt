-- The quiet law: a waiting look that finds no signal misses no id but those of notifies that haven't finished. And the two facts on which it rests.
use Rattle.std.specs.Prelude.{◌≡◌, ℕ, ◌/◌, ◌<◌, Bool, true, false, ◌&&◌, ◌||◌, ◌==◌, if◌then◌else◌, List, [], ◌∷◌, Option, Some, None, ⊤}
use Rattle.board_event_model.specs.declared.access.EventAccess.{EventAccess}
use Rattle.board_event_model.specs.declared.access.EventAccess.TheVariants as access
use Rattle.board_event_model.specs.declared.access.EventAnswer.TheVariants as answer
use Rattle.board_event_model.specs.declared.call.WaitStage.{WaitStage}
use Rattle.board_event_model.specs.declared.call.WaitStage.TheVariants as wait
use Rattle.board_event_model.specs.Ids.{has}
use Rattle.board_event_model.specs.EventMemory.{Event, is_bits}
use Rattle.board_event_model.specs.WaitCalls.{Wait}
use Rattle.board_event_model.specs.EventCalls.{a_wait, PartyName, RunningCall, TakenAccess, call_of}
use Rattle.board_event_model.specs.EventRuns.{Moment, IsReached, Takes}

-- whether an access sets this id
abbrev pub sets : EventAccess → ℕ → Bool
sets (access.Set i) id = i == id
sets _ id = false

-- the number of the call that set an id last
abbrev pub last_setter : ℕ → List TakenAccess → Option ℕ
last_setter id [] = None
last_setter id (t ∷ ts) = if sets t.access id then Some t.call else last_setter id ts

-- whether a call has taken its last access
abbrev pub has_ended : ℕ → List TakenAccess → Bool
has_ended n [] = false
has_ended n (t ∷ ts) = t.call == n && t.last || has_ended n ts

-- the id was last set by a notify that hasn't finished
pub record IsOpen (id : ℕ) (history : List TakenAccess) : Type 0 where
  pub setter : ℕ
  pub last : last_setter id history ≡ Some setter
  pub unfinished : has_ended setter history ≡ false

-- where a wait on bits makes a waiting look that finds no signal, every pending id was last set by a notify that hasn't finished
abbrev pub QuietLaw : Type 0
QuietLaw =
    (now : Moment) → IsReached now → is_bits now.event.kind ≡ true →
    (p : PartyName) (r : RunningCall) (w : Wait) → Takes now p r access.Signal answer.No → call_of r ≡ a_wait w → w.stage ≡ wait.Look →
    (id : ℕ) → has now.event.pending id ≡ true → IsOpen id now.history

-- ---- the two facts that each step keeps

-- whether an access sets an id
abbrev pub is_a_set : EventAccess → Bool
is_a_set (access.Set i) = true
is_a_set _ = false

-- whether a call has set an id
abbrev pub has_set : ℕ → List TakenAccess → Bool
has_set n [] = false
has_set n (t ∷ ts) = t.call == n && is_a_set t.access || has_set n ts

-- each signal was posted by a call that had set its id before
abbrev pub PostsFollowSets : List TakenAccess → Type 0
PostsFollowSets [] = ⊤
PostsFollowSets (t ∷ ts) = (t.access ≡ access.Post → has_set t.call ts ≡ true) × PostsFollowSets ts

-- first fact: each signal was posted after its id was set
abbrev pub PostLaw : Type 0
PostLaw = (now : Moment) → IsReached now → PostsFollowSets now.history

-- how many words a wait has found empty or has swapped since its drain: one that is about to clear found those before the id's word empty
abbrev pub words_seen : ℕ → WaitStage → ℕ
words_seen words wait.Drain = 0
words_seen words (wait.Scan k) = k
words_seen words (wait.Clear id) = id / 64
words_seen words (wait.Swap k some) = k
words_seen words wait.Look = words
words_seen words (wait.Pop n) = 0
words_seen words wait.Finished = 0

-- while no signal stands, each pending id of the first words was last set by a notify that hasn't finished
abbrev pub IsQuiet : Event → List TakenAccess → ℕ → Type 0
IsQuiet e history words = e.signals ≡ 0 → (id : ℕ) → has e.pending id ≡ true → id / 64 < words → IsOpen id history

-- second fact: of a wait past its drain, this holds of the words that it has found empty or has swapped
abbrev pub SeenLaw : Type 0
SeenLaw =
    (now : Moment) → IsReached now → is_bits now.event.kind ≡ true →
    (p : PartyName) (r : RunningCall) (w : Wait) → now.running p ≡ Some r → call_of r ≡ a_wait w →
    IsQuiet now.event now.history (words_seen w.words w.stage)
