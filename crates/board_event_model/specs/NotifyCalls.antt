-- The accesses that a notify owes.
use Rattle.std.specs.Prelude.{ℕ, Bool, true, false, nat_lt, if◌then◌else◌}
use Rattle.board_event_model.specs.declared.access.EventAccess.{EventAccess}
use Rattle.board_event_model.specs.declared.access.EventAccess.TheVariants as access
use Rattle.board_event_model.specs.declared.access.EventAnswer.{EventAnswer}
use Rattle.board_event_model.specs.declared.access.EventAnswer.TheVariants as answer
use Rattle.board_event_model.specs.declared.call.EventProgress.{EventProgress}
use Rattle.board_event_model.specs.declared.call.EventProgress.TheVariants as progress
use Rattle.board_names.specs.declared.errors.event.NotifierNotifyError.TheVariants as error
use Rattle.board_event_model.specs.declared.call.NotifyStage.{NotifyStage}
use Rattle.board_event_model.specs.declared.call.NotifyStage.TheVariants as notify

-- whether a look was answered yes
abbrev pub is_yes : EventAnswer → Bool
is_yes answer.Yes = true
is_yes _ = false

-- a notify of an id; on bits, of an event with this greatest id
pub record Notify : Type 0 where
  pub id : ℕ
  pub max : ℕ
  pub stage : NotifyStage

-- on bits it begins with a look at the listener
abbrev pub notify_bits : ℕ → ℕ → Notify
notify_bits id max = record { id = id; max = max; stage = notify.Look }

-- on a queue it is one push
abbrev pub notify_queue : ℕ → Notify
notify_queue id = record { id = id; max = 0; stage = notify.Push }

-- the access that is owed
abbrev pub notify_owed : ℕ → NotifyStage → EventAccess
notify_owed id notify.Look = access.Listener
notify_owed id notify.Set = access.Set id
notify_owed id notify.Post = access.Post
notify_owed id notify.Push = access.Push id
notify_owed id notify.Finished = access.Listener

-- what a push comes to
abbrev pub pushed : EventAnswer → EventProgress
pushed answer.Done = progress.Notified
pushed answer.Full = progress.Refused error.FailedToDeliverSignal
pushed _ = progress.Refused error.Disconnected

-- what it has come to with an answer, and where it stands then
abbrev pub notify_turn : Notify → NotifyStage → EventAnswer → EventProgress × NotifyStage
notify_turn n notify.Look a =
    if is_yes a then (if nat_lt n.max n.id then (progress.Refused error.TriggerIdOutOfBounds, notify.Finished) else (progress.More, notify.Set))
    else (progress.Refused error.Disconnected, notify.Finished)
notify_turn n notify.Set a = (progress.More, notify.Post)
notify_turn n notify.Post a = (progress.Notified, notify.Finished)
notify_turn n notify.Push a = (pushed a, notify.Finished)
notify_turn n notify.Finished a = (progress.More, notify.Finished)
