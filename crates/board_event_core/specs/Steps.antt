-- What a step of a call is.
use Rattle.std.specs.Prelude.{◌≡◌, ℕ, IsSomeAnd}
use Rattle.board_event_model.specs.EventMemory.{IsRight, after}
use Rattle.board_event_model.specs.NotifyCalls.{Notify, notify_owed, notify_turn}
use Rattle.board_event_model.specs.WaitCalls.{Wait, wait_owed, wait_turn}
use Rattle.board_event_core.specs.EventTable.{EventTable, changed, event_at}
use Rattle.board_event_core.specs.Turns.{notify_went_on, wait_went_on}
use Rattle.board_event_core.specs.declared.steps.EventStep.{EventStep}

-- a notify takes the access that it owes, is answered right, and goes on by the answer
pub record IsNotifyStep (old new : EventTable) (event : ℕ) (call next : Notify) (s : EventStep) : Type 0 where
  pub owed : s.access ≡ notify_owed call.id call.stage
  pub right : IsSomeAnd (event_at old event) (λ e. IsRight e s.access s.answer)
  pub memory : new ≡ changed old event (λ e. after e s.access)
  pub progress : s.progress ≡ (notify_turn call call.stage s.answer).0
  pub goes_on : next ≡ notify_went_on call s.answer

-- a wait takes the access that it owes, is answered right, and goes on by the answer
pub record IsWaitStep (old new : EventTable) (event : ℕ) (call next : Wait) (s : EventStep) : Type 0 where
  pub owed : s.access ≡ wait_owed call.stage
  pub right : IsSomeAnd (event_at old event) (λ e. IsRight e s.access s.answer)
  pub memory : new ≡ changed old event (λ e. after e s.access)
  pub progress : s.progress ≡ (wait_turn call call.stage s.answer).0
  pub goes_on : next ≡ wait_went_on call s.answer
