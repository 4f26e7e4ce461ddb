-- Calls that end before their last access.
use Rattle.std.proofs.Common.{◌≡◌, ℕ, Bool, true, false, List, refl, sym, ◌∙◌, Option, Some, None}
use Rattle.std.specs.Prelude.{if◌then◌else◌}
use Rattle.board_model.specs.declared.answer.Reason.{Reason}
use Rattle.board_model.specs.declared.answer.Reason.TheVariants as reason
use Rattle.board_event_model.specs.EventSessions.{PartyCall, expire_of, next_session}
use Rattle.script_model.specs.ScriptEvents.{EventAsk, ScriptEvents}
use Rattle.script_model.specs.ScriptTurns.{EventTurn, expire_of_call, expires, may_expire, refused}
use Rattle.script_events.specs.declared.party_events.PartyEvents.{PartyEvents}
use Rattle.script_events.specs.declared.rows.CallTask.{CallTask}
use Rattle.script_events.specs.declared.rows.CallTask.TheVariants as task
use Rattle.script_events.specs.Calls.{may_end}
use Rattle.script_events.specs.PartyEvents.{IsAskedBy, IsCall, IsRunning, IsTaskOf, IsTurned, Represents}

-- a call that was asked for doesn't wait
ask_stays : (t : CallTask) (q : EventAsk) → IsAskedBy t q → may_end t ≡ false
ask_stays (task.Listen name kind event max) q h = refl
ask_stays (task.Notifier name kind event) q h = refl
ask_stays (task.Act a) q h = absurd h

-- a call on an event waits where the definitions say so
act_waits : (t : CallTask) (d : PartyCall) → IsTaskOf t d → may_end t ≡ may_expire d
act_waits (task.Listen name kind event max) d h = absurd h
act_waits (task.Notifier name kind event) d h = absurd h
act_waits (task.Act a) d h = rw (h.call, h.waited) refl

-- what a task says of the end
pub end_of : (party : List ℕ) (t : CallTask) (q : Option EventAsk) (d : Option PartyCall) → IsRunning t q d → (b : Bool) → may_end t ≡ b → expire_of_call party q d ≡ (if b then expires party else refused reason.NotWaiting)
end_of party t None None h b e = absurd h
end_of party t None (Some d) h b e = rw (sym (act_waits t d h) ∙ e) refl
end_of party t (Some q) d h true e = absurd (let no : true ≡ false = sym e ∙ ask_stays t q h in cc)
end_of party t (Some q) d h false e = refl

-- an end that is granted is that of no ask
pub not_asked : (t : CallTask) (q : Option EventAsk) (d : Option PartyCall) → IsRunning t q d → may_end t ≡ true → q ≡ None
not_asked t None d h e = refl
not_asked t (Some q) d h e = absurd (let no : true ≡ false = sym e ∙ ask_stays t q h in cc)

-- no call, nothing to end
pub idle_end : (party : List ℕ) (q : Option EventAsk) (d : Option PartyCall) → IsCall None q d → expire_of_call party q d ≡ refused reason.Idle
idle_end party q d h = rw (h.0, h.1) refl

-- a line that is refused leaves all as it was
pub refused_turn : (m : PartyEvents) (x : ScriptEvents) (turn : EventTurn) (why : Reason) → turn ≡ refused why → Represents m x → IsTurned m x turn (Some why)
refused_turn m x turn why e rep = record { told_is = rw e refl; represents = λ a. rw e rep }

-- a call that expires is gone
pub expired_turn : (m new : PartyEvents) (x : ScriptEvents) (party : List ℕ) (turn : EventTurn) → turn ≡ expires party → Represents new (record x { session = next_session x.session (expire_of party) }) → IsTurned new x turn None
expired_turn m new x party turn e rep = record { told_is = rw e refl; represents = λ a. rw e rep }
