-- The event law: what the ends of notifies and waits say of their own steps.
use Rattle.std.specs.Prelude.{◌≡◌, ℕ, ◌+◌, ◌/◌, ◌<◌, true, false, ◌==◌, List, [], ◌∷◌, ◌++◌, length, Option, Some, None, IsSomeAnd, ◌⊎◌}
use Rattle.std.specs.List.{list_any}
use Rattle.board_event_model.specs.declared.access.EventAccess.{EventAccess}
use Rattle.board_event_model.specs.declared.access.EventAccess.TheVariants as access
use Rattle.board_event_model.specs.declared.access.EventAnswer.{EventAnswer}
use Rattle.board_event_model.specs.declared.call.EventProgress.{EventProgress}
use Rattle.board_event_model.specs.declared.call.EventProgress.TheVariants as progress
use Rattle.board_event_model.specs.declared.call.WaitMode.TheVariants as mode
use Rattle.board_event_model.specs.Ids.{has, in_word}
use Rattle.board_event_model.specs.EventMemory.{is_bits, after, taken, is_pending}
use Rattle.board_event_model.specs.NotifyCalls.{Notify}
use Rattle.board_event_model.specs.WaitCalls.{Wait}
use Rattle.board_event_model.specs.EventCalls.{a_notify, a_wait, turn, reported, is_last, PartyName, MetAccess, RunningCall, call_of}
use Rattle.board_event_model.specs.EventRuns.{Moment, expire, IsAllowed, IsReached, Takes}

-- the ids that a call's own accesses took, in order
abbrev pub taken_by : List MetAccess → List ℕ
taken_by [] = []
taken_by (s ∷ ss) = taken_by ss ++ taken s.met s.access

-- one of these accesses
abbrev pub IsOneOf : List MetAccess → MetAccess → Type 0
IsOneOf [] s = ⊥
IsOneOf (t ∷ ts) s = (s ≡ t) ⊎ IsOneOf ts s

-- an access that reads or takes word k, which has no pending id
pub record SeesEmptyWord (s : MetAccess) (k : ℕ) : Type 0 where
  pub looks : (s.access ≡ access.Scan k) ⊎ (s.access ≡ access.Swap k)
  pub empty : (id : ℕ) → has s.met.pending id ≡ true → in_word k id ≡ false

-- the step, and those before it
abbrev pub with_step : Moment → RunningCall → EventAccess → List MetAccess
with_step now r a = record { met = now.event; access = a } ∷ r.steps

-- the first of these accesses
abbrev pub first_step : List MetAccess → Option MetAccess
first_step [] = None
first_step (s ∷ []) = Some s
first_step (s ∷ t ∷ ts) = first_step (t ∷ ts)

-- a notify that ends with ok made its id pending, or found it so and left it so, at one of its own steps
pub record IsNotifyOk (id : ℕ) (steps : List MetAccess) : Type 0 where
  pub made : MetAccess
  pub own : IsOneOf steps made
  pub pending : is_pending (after made.met made.access) id ≡ true

-- what a call has come to with this answer
abbrev pub progress_with : RunningCall → EventAnswer → EventProgress
progress_with r answer = (turn (call_of r) answer).0

-- a notify that ends with ok made its id pending, or left it so
abbrev pub NotifyLaw : Type 0
NotifyLaw =
    (now : Moment) → IsReached now →
    (p : PartyName) (r : RunningCall) (n : Notify) (a : EventAccess) (answer : EventAnswer) → Takes now p r a answer → call_of r ≡ a_notify n →
    progress_with r answer ≡ progress.Notified → IsNotifyOk n.id (with_step now r a)

-- what a finished wait reports is what its own steps took, in order
abbrev pub ReplyLaw : Type 0
ReplyLaw =
    (now : Moment) → IsReached now →
    (p : PartyName) (r : RunningCall) (w : Wait) (a : EventAccess) (answer : EventAnswer) → Takes now p r a answer → call_of r ≡ a_wait w →
    is_last (progress_with r answer) ≡ true → r.told ++ reported (progress_with r answer) ≡ taken_by (with_step now r a)

-- no id was pending at this access
abbrev pub MetNonePending : MetAccess → Type 0
MetNonePending s = (id : ℕ) → has s.met.pending id ≡ false

-- the last of these accesses was a pop that found the list empty
abbrev pub FoundListEmpty : List MetAccess → Type 0
FoundListEmpty [] = ⊥
FoundListEmpty (s ∷ ss) = (s.access ≡ access.Pop) × (s.met.queue ≡ [])

-- a wait that may expire has taken nothing
pub record IsExpired (now : Moment) (r : RunningCall) : Type 0 where
  pub none : taken_by r.steps ≡ []
  -- one for all on bits loses no id that was pending at its first step: none was
  pub all : is_bits now.event.kind ≡ true → (w : Wait) → call_of r ≡ a_wait w → w.many ≡ true → IsSomeAnd (first_step r.steps) MetNonePending
  -- on the queue it saw the list empty at its last step
  pub list : is_bits now.event.kind ≡ false → FoundListEmpty r.steps

-- so an expired wait is a finished one
abbrev pub ExpireLaw : Type 0
ExpireLaw =
    (now : Moment) → IsReached now → (p : PartyName) (r : RunningCall) → now.running p ≡ Some r → IsAllowed now (expire p) → IsExpired now r

-- none comes only to mode try, and only where nothing was taken
pub record IsNoneOfTry (now : Moment) (r : RunningCall) (w : Wait) (a : EventAccess) : Type 0 where
  pub mode : w.mode ≡ mode.Try
  pub none : taken_by (with_step now r a) ≡ []
  -- on bits it saw each word empty at a step of its own
  pub words : is_bits now.event.kind ≡ true → (k : ℕ) → k < now.event.max / 64 + 1 → (s : MetAccess) × IsOneOf (with_step now r a) s × SeesEmptyWord s k
  -- on the queue it saw the list empty at this step, its last
  pub list : is_bits now.event.kind ≡ false → (a ≡ access.Pop) × (now.event.queue ≡ [])

-- a wait ends with no id only so
abbrev pub NoneLaw : Type 0
NoneLaw =
    (now : Moment) → IsReached now →
    (p : PartyName) (r : RunningCall) (w : Wait) (a : EventAccess) (answer : EventAnswer) → Takes now p r a answer → call_of r ≡ a_wait w →
    progress_with r answer ≡ progress.Nothing → IsNoneOfTry now r w a

-- a finished wait that took nothing ends with no id
abbrev pub NothingLaw : Type 0
NothingLaw =
    (now : Moment) → IsReached now →
    (p : PartyName) (r : RunningCall) (w : Wait) (a : EventAccess) (answer : EventAnswer) → Takes now p r a answer → call_of r ≡ a_wait w →
    is_last (progress_with r answer) ≡ true → taken_by (with_step now r a) ≡ [] → progress_with r answer ≡ progress.Nothing

-- a finished wait for all on bits reports every id that was pending at its first step
abbrev pub AllLaw : Type 0
AllLaw =
    (now : Moment) → IsReached now → is_bits now.event.kind ≡ true →
    (p : PartyName) (r : RunningCall) (w : Wait) (a : EventAccess) (answer : EventAnswer) → Takes now p r a answer → call_of r ≡ a_wait w → w.many ≡ true →
    is_last (progress_with r answer) ≡ true → (s : MetAccess) → first_step (with_step now r a) ≡ Some s →
    (id : ℕ) → has s.met.pending id ≡ true → list_any (λ x. x == id) (r.told ++ reported (progress_with r answer)) ≡ true

-- a finished wait for all on the queue saw the list empty at its last step, or took 513 ids
abbrev pub QueueLaw : Type 0
QueueLaw =
    (now : Moment) → IsReached now → is_bits now.event.kind ≡ false →
    (p : PartyName) (r : RunningCall) (w : Wait) (a : EventAccess) (answer : EventAnswer) → Takes now p r a answer → call_of r ≡ a_wait w → w.many ≡ true →
    is_last (progress_with r answer) ≡ true → (now.event.queue ≡ []) ⊎ (length (r.told ++ reported (progress_with r answer)) ≡ 513)
