-- What a checker keeps of a call on an event that runs, and which call of the definitions it stands for.
use Rattle.std.specs.Prelude.{◌≡◌, ℕ, Option, Some, None, IsSomeAnd}
use Rattle.board_event_model.specs.declared.access.EventAccess.{EventAccess}
use Rattle.board_event_model.specs.declared.access.EventAnswer.{EventAnswer}
use Rattle.board_event_model.specs.EventMemory.{Event}
use Rattle.board_event_model.specs.EventCalls as calls
use Rattle.board_event_model.specs.EventCalls.{RunningCall, call_of, new_call, turn, went_on}
use Rattle.script_model.specs.declared.reply.EventReply.{EventReply}
use Rattle.script_model.specs.ScriptEvents.{step_told}
use Rattle.script_event_rows.specs.declared.event_call.EventTask.{EventTask}
use Rattle.script_event_rows.specs.declared.event_call.EventTask.TheVariants as task
use Rattle.script_event_rows.specs.declared.event_call.EventCall.{EventCall}
use Rattle.script_event_rows.specs.declared.event_call.Took.{Took}
use Rattle.script_event_rows.specs.declared.event_call.Took.TheVariants.{GoesOn, Ended}
use Rattle.script_event_rows.specs.declared.event_row.EventRow.{EventRow}
use Rattle.script_event_rows.specs.EventRows.{StandsFor}

-- the call of the definitions that a task is
abbrev pub call_in : EventTask → calls.EventCall
call_in (task.Notify n) = calls.a_notify n
call_in (task.Wait w) = calls.a_wait w

-- it is kept of a call that runs: how it stands, the ids that it has reported, and whether its last access was a waiting look
-- that found nothing
pub record IsKeptOf (c : EventCall) (r : RunningCall) : Type 0 where
  pub task : call_in c.task ≡ call_of r
  pub told : c.told.items ≡ r.told
  pub waited : c.waited ≡ r.waited

-- it is kept of this call on the row's event, of which no access was made
abbrev pub IsNewOn : EventRow → (Event → calls.EventCall) → EventCall → Type 0
IsNewOn row call c = (e : Event) (number : ℕ) → StandsFor row e → IsKeptOf c (new_call number (call e))

-- this is what the call has of which it is kept
abbrev pub IsOfCall : {A : Type 0} → EventCall → (RunningCall → A) → A → Type 0
IsOfCall c part x = (r : RunningCall) → IsKeptOf c r → x ≡ part r

-- what a call is told that took such an answer
abbrev pub told_with : EventAnswer → RunningCall → Option EventReply
told_with answer r = step_told r (turn (call_of r) answer).0

-- after an answer to the access that it owed the call goes on as the definitions' does, or ends as that does, and is told the same
abbrev pub HasTaken : EventAnswer → RunningCall → Took → Type 0
HasTaken answer r (GoesOn c) = (told_with answer r ≡ None) × ((e : Event) (a : EventAccess) → IsSomeAnd (went_on r e a answer) (IsKeptOf c))
HasTaken answer r (Ended told) = (told_with answer r ≡ Some told) × ((e : Event) (a : EventAccess) → went_on r e a answer ≡ None)
