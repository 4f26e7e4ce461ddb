-- One access of a call. No clause of a public call cites it.
use Rattle.std.specs.Prelude.{◌≡◌, ◌≤◌, ℕ, ◌+◌, ◌-◌, ◌^◌, IsSomeAnd, Option, Some, None, ⊤, ◌⊎◌}
use Rattle.board_names.specs.declared.errors.event.NotifierNotifyError.TheVariants as error
use Rattle.board_event_model.specs.declared.access.EventAnswer.{EventAnswer}
use Rattle.board_event_model.specs.declared.call.EventProgress.{EventProgress}
use Rattle.board_event_model.specs.declared.call.EventProgress.TheVariants as progress
use Rattle.board_event_model.specs.declared.call.NotifyStage.{NotifyStage}
use Rattle.board_event_model.specs.declared.call.NotifyStage.TheVariants as notify
use Rattle.board_event_model.specs.EventMemory.{IsRight, after}
use Rattle.board_event_model.specs.NotifyCalls.{Notify, notify_owed, notify_turn}
use Rattle.board_event_model.specs.WaitCalls.{Wait, wait_owed, wait_turn}
use Rattle.board_event_core.specs.EventTable.{CanPerformAt, EventTable, IsEventTable, changed, event_at}
use Rattle.board_event_core.specs.Turns.{notify_went_on, wait_went_on}
use Rattle.board_event_core.specs.Passing.{PassesOver, ids_at}

-- the access that a wait owes was made, and answered so
pub record WaitMade (old new : EventTable) (n : ℕ) (call next : Wait) (p : EventProgress) (a : EventAnswer) : Type 0 where
  pub can : CanPerformAt old n (wait_owed call.stage)
  pub right : IsSomeAnd (event_at old n) (λ e. IsRight e (wait_owed call.stage) a)
  pub memory : new ≡ changed old n (λ e. after e (wait_owed call.stage))
  pub progress : p ≡ (wait_turn call call.stage a).0
  pub goes_on : next ≡ wait_went_on call a

-- where the event can take the access it is made, and else all stays
abbrev pub IsWaitAccess : EventTable → EventTable → ℕ → Wait → Wait → Option EventProgress → Type 0
IsWaitAccess old new n call next None = (¬ CanPerformAt old n (wait_owed call.stage)) × (new ≡ old)
IsWaitAccess old new n call next (Some p) = (a : EventAnswer) × WaitMade old new n call next p a

-- the access that a notify owes was made, and answered so
pub record NotifyMade (old new : EventTable) (n : ℕ) (call next : Notify) (p : EventProgress) (a : EventAnswer) : Type 0 where
  pub can : CanPerformAt old n (notify_owed call.id call.stage)
  pub right : IsSomeAnd (event_at old n) (λ e. IsRight e (notify_owed call.id call.stage) a)
  pub memory : new ≡ changed old n (λ e. after e (notify_owed call.id call.stage))
  pub progress : p ≡ (notify_turn call call.stage a).0
  pub goes_on : next ≡ notify_went_on call a

-- some answer was given to it
abbrev pub IsNotifyMade : EventTable → EventTable → ℕ → Notify → Notify → EventProgress → Type 0
IsNotifyMade old new n call next p = (a : EventAnswer) × NotifyMade old new n call next p a

-- what a notify comes to where the event can't take its access: a post is left out, and else the listener is gone
abbrev pub left_out : NotifyStage → EventProgress
left_out notify.Post = progress.Notified
left_out _ = progress.Refused error.Disconnected

-- the event can't take it
pub record NotifyLeft (old new : EventTable) (n : ℕ) (call : Notify) (p : EventProgress) : Type 0 where
  pub cannot : ¬ CanPerformAt old n (notify_owed call.id call.stage)
  pub stays : new ≡ old
  pub told : p ≡ left_out call.stage

-- where the event can take the access it is made, and else all stays
abbrev pub IsNotifyAccess : EventTable → EventTable → ℕ → Notify → Notify → EventProgress → Type 0
IsNotifyAccess old new n call next p = IsNotifyMade old new n call next p ⊎ NotifyLeft old new n call p

-- ---- one hold of the lock: a table of events that stood then, and the access on it

-- of a notify
abbrev pub IsNotifyHold : ℕ → Notify → Notify → EventProgress → Type 0
IsNotifyHold n call next p = (old : EventTable) × (new : EventTable) × IsNotifyAccess old new n call next p

-- of a wait, where the access was made
pub record WaitHeld (old new : EventTable) (n : ℕ) (call next : Wait) (p : EventProgress) (a : EventAnswer) : Type 0 where
  pub table : IsEventTable old
  pub made : WaitMade old new n call next p a

abbrev pub IsWaitHold : ℕ → Wait → Wait → EventProgress → Type 0
IsWaitHold n call next p = (old : EventTable) × (new : EventTable) × (a : EventAnswer) × WaitHeld old new n call next p a

-- the same behind looks at words without ids, which were left out under that hold
abbrev pub IsHoldBehind : ℕ → Wait → Wait → EventProgress → Type 0
IsHoldBehind n call next p =
    (mid : Wait) × (old : EventTable) × (new : EventTable) × (a : EventAnswer) × PassesOver (ids_at (event_at old n)) call mid × WaitHeld old new n mid next p a

-- ---- the ids of a step

-- the ids of a step are numbers of 64 bits
abbrev pub IsInRange : EventProgress → Type 0
IsInRange (progress.Took base bits last) = base + 64 ≤ 2 ^ 64
IsInRange _ = ⊤
