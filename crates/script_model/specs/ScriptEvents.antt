-- The events of a script: who listens and notifies, and what the calls on them are told and leave.
use Rattle.std.specs.Prelude.{◌≡◌, ℕ, ◌+◌, ◌-◌, ◌/◌, Bool, true, false, not, ◌&&◌, ◌||◌, ◌==◌, if◌then◌else◌, List, [], ◌∷◌, ◌++◌, Option, Some, None, is_some, IsSomeAnd}
use Rattle.std.specs.Str.{bytes_eq}
use Rattle.board_event_model.specs.declared.access.EventAnswer.{EventAnswer}
use Rattle.board_event_model.specs.declared.call.EventProgress.{EventProgress}
use Rattle.board_event_model.specs.declared.call.EventProgress.TheVariants as progress
use Rattle.board_event_model.specs.declared.call.WaitMode.{WaitMode}
use Rattle.board_event_model.specs.declared.kind.EventKind.{EventKind}
use Rattle.board_event_model.specs.declared.kind.EventKind.TheVariants as kind
use Rattle.board_event_model.specs.EventMemory.{Event, IsRight, holds_name, is_bits}
use Rattle.board_event_model.specs.NotifyCalls.{notify_bits, notify_queue}
use Rattle.board_event_model.specs.WaitCalls.{wait_bits, wait_queue}
use Rattle.board_event_model.specs.EventCalls.{EventCall, a_notify, a_wait, is_last, owed, reported, turn, RunningCall, call_of}
use Rattle.board_event_model.specs.EventSessions.{EventSession, PartyCall, abandon_of, event_of, listen, next_session, no_session, notifiers_of, release_of, step_of}
use Rattle.board_model.specs.Things.{with_at}
use Rattle.board_model.specs.Requests.{and_then}
use Rattle.script_model.specs.declared.line.EventRequest.{EventRequest}
use Rattle.script_model.specs.declared.line.EventRequest.TheVariants as request
use Rattle.script_model.specs.declared.reply.EventReply.{EventReply}
use Rattle.script_model.specs.declared.reply.EventReply.TheVariants as reply
use Rattle.script_model.specs.ScriptAnswers.{ScriptAnswer, of_ask, of_event}

-- what a party holds of an event, which is known by its number
pub data EventThing : Type 0 where
  listener : ℕ → EventThing
  notifier : ℕ → EventThing

-- a listener or a notifier that is asked for under a name, which is one step
pub data EventAsk : Type 0 where
  to_listen : (name : List ℕ) (kind : EventKind) (event : List ℕ) (max : ℕ) → EventAsk
  to_notify : (name : List ℕ) (kind : EventKind) (event : List ℕ) → EventAsk

-- the events and the calls that run on them; the event that holds a name of a kind; what each party holds under a name, and what it asks for
pub record ScriptEvents : Type 0 where
  pub session : EventSession
  pub names : EventKind → List ℕ → Option ℕ
  pub things : List ℕ → List ℕ → Option EventThing
  pub asked : List ℕ → Option EventAsk

-- no events
abbrev pub no_events : ScriptEvents
no_events = record { session = no_session; names = λ k name. None; things = λ p n. None; asked = λ p. None }

-- ---- looking up

-- a call of the party runs on events
abbrev pub runs_on_events : ScriptEvents → List ℕ → Bool
runs_on_events x party = is_some (x.asked party) || is_some (x.session.doing party)

-- the party holds a listener or a notifier under the name
abbrev pub holds_event : ScriptEvents → List ℕ → List ℕ → Bool
holds_event x party name = is_some (x.things party name)

-- the event that a thing listens on
abbrev pub listened_event : Option EventThing → Option ℕ
listened_event None = None
listened_event (Some (listener n)) = Some n
listened_event (Some (notifier n)) = None

-- the event that a thing notifies
abbrev pub notified : Option EventThing → Option ℕ
notified None = None
notified (Some (listener n)) = None
notified (Some (notifier n)) = Some n

-- ---- the calls

-- a notify of an event
abbrev pub notify_call : Event → ℕ → EventCall
notify_call e id = a_notify (if is_bits e.kind then notify_bits id e.max else notify_queue id)

-- a wait on an event
abbrev pub wait_call : Event → Bool → WaitMode → EventCall
wait_call e many m = a_wait (if is_bits e.kind then wait_bits (e.max / 64 + 1) many m else wait_queue many m)

-- a call with the thing that it uses found
pub data EventTask : Type 0 where
  ask : EventAsk → EventTask
  act : ℕ → EventCall → EventTask

-- a call on the event with this number
abbrev pub on_event : ScriptEvents → (Event → EventCall) → ℕ → Option EventTask
on_event x call n = and_then (event_of x.session.stands n) (λ e. Some (act n (call e)))

-- the call of a party, where it holds what the call uses
abbrev pub task_of : ScriptEvents → List ℕ → EventRequest → Option EventTask
task_of x party (request.ListenBits name event max) = Some (ask (to_listen name kind.Bits event max))
task_of x party (request.ListenQueue name event) = Some (ask (to_listen name kind.Queue event 0))
task_of x party (request.Notifier name k event) = Some (ask (to_notify name k event))
task_of x party (request.Notify name id) = and_then (notified (x.things party name)) (on_event x (λ e. notify_call e id))
task_of x party (request.Wait name many m) = and_then (listened_event (x.things party name)) (on_event x (λ e. wait_call e many m))

-- the name of the thing that a call makes
abbrev pub name_made : EventRequest → Option (List ℕ)
name_made (request.ListenBits name event max) = Some name
name_made (request.ListenQueue name event) = Some name
name_made (request.Notifier name k event) = Some name
name_made (request.Notify name id) = None
name_made (request.Wait name many m) = None

-- ---- names

-- the kinds are one
abbrev pub same_event_kind : EventKind → EventKind → Bool
same_event_kind j k = if is_bits j then is_bits k else not (is_bits k)

-- the names, where a name of a kind is held so
abbrev pub name_held : (EventKind → List ℕ → Option ℕ) → EventKind → List ℕ → Option ℕ → EventKind → List ℕ → Option ℕ
name_held names k name x j text = if same_event_kind j k && bytes_eq text name then x else names j text

-- the name of an event goes, where that event holds it
abbrev pub without_name : (EventKind → List ℕ → Option ℕ) → ℕ → Event → Option ℕ → EventKind → List ℕ → Option ℕ
without_name names n e None = names
without_name names n e (Some m) = if m == n then name_held names e.kind e.name None else names

-- the names after a holder of event n was let go, which left it so: a bits name is held while the event has a listener or notifiers, a queue name while it has its listener
abbrev pub names_left : (EventKind → List ℕ → Option ℕ) → ℕ → Event → EventKind → List ℕ → Option ℕ
names_left names n e = if holds_name e then names else without_name names n e (names e.kind e.name)

-- ---- listeners and notifiers

-- the party asks for this, or for nothing
abbrev pub with_ask : (List ℕ → Option EventAsk) → List ℕ → Option EventAsk → List ℕ → Option EventAsk
with_ask asked party x p = if bytes_eq p party then x else asked p

-- a new event with its listener; it has the next number
abbrev pub with_listener : ScriptEvents → List ℕ → List ℕ → EventKind → List ℕ → ℕ → ScriptEvents
with_listener x party name k event max = record x {
  session = next_session x.session (listen party k event max);
  names = name_held x.names k event (Some (x.session.count + 1));
  things = with_at x.things party name (Some (listener (x.session.count + 1)));
}

-- event n has a notifier more
abbrev pub notifier_more : ScriptEvents → List ℕ → List ℕ → ℕ → Event → ScriptEvents
notifier_more x party name n e = record x {
  session = next_session x.session (notifiers_of n (e.notifiers + 1));
  things = with_at x.things party name (Some (notifier n));
}

-- what is told of an event of this name, where it has its listener
abbrev pub opened_told : Option Event → EventReply
opened_told None = reply.DoesNotExist
opened_told (Some e) = if e.held then reply.Done else reply.DoesNotExist

-- and what follows
abbrev pub opened_with : ScriptEvents → List ℕ → List ℕ → ℕ → Option Event → ScriptEvents
opened_with x party name n None = x
opened_with x party name n (Some e) = if e.held then notifier_more x party name n e else x

-- what a party is told that asks: a name that is held makes no new event, and one that isn't has no notifier
abbrev pub ask_told : ScriptEvents → EventAsk → EventReply
ask_told x (to_listen name k event max) = if is_some (x.names k event) then reply.AlreadyExists else reply.Done
ask_told x (to_notify name k event) = opened_told (and_then (x.names k event) (event_of x.session.stands))

-- the notifier of the event that holds the name, if one does
abbrev pub opened : ScriptEvents → List ℕ → List ℕ → Option ℕ → ScriptEvents
opened x party name None = x
opened x party name (Some n) = opened_with x party name n (event_of x.session.stands n)

-- what stands after it was told
abbrev pub ask_made : ScriptEvents → List ℕ → EventAsk → ScriptEvents
ask_made x party (to_listen name k event max) = if is_some (x.names k event) then x else with_listener x party name k event max
ask_made x party (to_notify name k event) = opened x party name (x.names k event)

-- a listener or notifier goes, and leaves the event so
abbrev pub let_go_from : ScriptEvents → List ℕ → List ℕ → EventThing → Option Event → ScriptEvents
let_go_from x party name t None = x
let_go_from x party name (listener n) (Some e) = record x {
  session = next_session x.session (release_of n);
  names = names_left x.names n (record e { held = false });
  things = with_at x.things party name None;
}
let_go_from x party name (notifier n) (Some e) = record x {
  session = next_session x.session (notifiers_of n (e.notifiers - 1));
  names = names_left x.names n (record e { notifiers = e.notifiers - 1 });
  things = with_at x.things party name None;
}

-- the number of a thing's event
abbrev pub event_number : EventThing → ℕ
event_number (listener n) = n
event_number (notifier n) = n

-- what a party holds under a name goes
abbrev pub event_let_go : ScriptEvents → List ℕ → List ℕ → Option EventThing → ScriptEvents
event_let_go x party name None = x
event_let_go x party name (Some t) = let_go_from x party name t (event_of x.session.stands (event_number t))

-- ---- notifies and waits

-- whether a call is a wait for all
abbrev pub is_for_all : EventCall → Bool
is_for_all (a_notify n) = false
is_for_all (a_wait w) = w.many

-- the ids that a wait took
abbrev pub ids_told : Bool → List ℕ → EventReply
ids_told true ids = reply.Ids ids
ids_told false [] = reply.Nothing
ids_told false (id ∷ ids) = reply.Id id

-- what a call is told with its last access, after it had taken these ids
abbrev pub end_told : Bool → List ℕ → EventProgress → EventReply
end_told many ids progress.Notified = reply.Done
end_told many ids (progress.Refused why) = reply.NotNotified why
end_told many ids progress.Nothing = reply.Nothing
end_told many ids p = ids_told many (ids ++ reported p)

-- what a call is told at a step: nothing where it goes on
abbrev pub step_told : RunningCall → EventProgress → Option EventReply
step_told r p = if is_last p then Some (end_told (is_for_all (call_of r)) r.told p) else None

-- the step makes the access that the call owes, is answered right, and tells what the call is told
pub record IsEventAccess (e : Event) (r : RunningCall) (a : ScriptAnswer) : Type 0 where
  pub answer : EventAnswer
  pub right : IsRight e (owed (call_of r)) answer
  pub printed : a ≡ of_event e.kind e.name (owed (call_of r)) answer (step_told r (turn (call_of r) answer).0)

-- the step of a call on its event
abbrev pub IsEventStep : ScriptEvents → PartyCall → ScriptAnswer → Type 0
IsEventStep x d a = IsSomeAnd (event_of x.session.stands d.on) (λ e. IsEventAccess e d.call a)

-- the step of what a party runs
abbrev pub IsStepOf : ScriptEvents → Option EventAsk → Option PartyCall → ScriptAnswer → Type 0
IsStepOf x (Some q) d a = a ≡ of_ask (ask_told x q)
IsStepOf x None None a = ⊥
IsStepOf x None (Some d) a = IsEventStep x d a

-- what stands after it
abbrev pub step_made : ScriptEvents → List ℕ → Option EventAsk → ScriptAnswer → ScriptEvents
step_made x party (Some q) a = (let y = ask_made x party q in record y { asked = with_ask y.asked party None })
step_made x party None (of_event k name access answer told) = record x { session = next_session x.session (step_of party access answer) }
step_made x party None a = x

-- ---- the end of a party

-- the party's call runs no more, and its queue listeners count as gone
abbrev pub events_abandoned : ScriptEvents → List ℕ → ScriptEvents
events_abandoned x party = record x { session = next_session x.session (abandon_of party); asked = with_ask x.asked party None }
