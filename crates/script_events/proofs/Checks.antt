-- Calls that are to begin.
use Rattle.std.proofs.Common.{◌≡◌, ℕ, Bool, List, refl, sym, ap, subst, ◌∙◌, Option, Some, None}
use Rattle.std.specs.Prelude.{◌||◌, if◌then◌else◌, option_map, IfSome, IsSomeAnd, Ok}
use Rattle.board_model.specs.declared.answer.Reason.TheVariants as reason
use Rattle.board_model.specs.LawfulSession.{State}
use Rattle.board_event_model.specs.EventMemory.{Event}
use Rattle.board_event_model.specs.EventCalls.{EventCall, new_call}
use Rattle.board_event_model.specs.EventSessions.{PartyCall}
use Rattle.board_event_core.specs.EventTable.{EventTable, event_at}
use Rattle.board_event_model.specs.declared.call.WaitMode.{WaitMode}
use Rattle.board_model.specs.Requests.{and_then}
use Rattle.board_model.specs.Things.{is_held as holds_thing}
use Rattle.script_model.specs.declared.line.EventRequest.{EventRequest}
use Rattle.script_model.specs.declared.line.EventRequest.TheVariants as request
use Rattle.script_model.specs.ScriptEvents.{EventTask, EventThing, ScriptEvents, act, ask, holds_event, listened_event, listener, name_made, notified, notifier, on_event, task_of}
use Rattle.script_model.specs.ScriptTurns.{EventTurn, begins, refused, task_begun, task_turn}
use Rattle.script_model.specs.SoundEvents.{AreSoundEvents}
use Rattle.script_events.specs.declared.party_events.PartyEvents.{PartyEvents}
use Rattle.script_events.specs.declared.rows.CallTask.{CallTask}
use Rattle.script_events.specs.declared.rows.CallTask.TheVariants as task
use Rattle.script_events.specs.declared.rows.Holding.{Holding}
use Rattle.script_events.specs.declared.rows.Holding.TheVariants as holding
use Rattle.script_events.specs.Calls.{IsChecked, IsNewAct, IsTask, listened_in, notified_in}
use Rattle.script_events.specs.Left.{HasTask}
use Rattle.script_events.specs.PartyEvents.{Held, Holds, IsTaskOf, IsTurned, Represents, TellsTaken, held_in, task_in, thing_in}
use Rattle.script_events.proofs.Tasks.{ask_changed, call_changed}
use Rattle.script_events.proofs.Holding.{IsThere, event_of-some, listener_there, notifier_there}

-- ---- names

-- a call that makes something is refused where its name is held
pub named_turn : (boards : State) (x : ScriptEvents) (party : List ℕ) (q : EventRequest) (u : EventTask) (name : List ℕ) (taken result : Bool) → task_of x party q ≡ Some u → name_made q ≡ Some name
    → TellsTaken taken boards party q → result ≡ (taken || holds_event x party name)
    → task_turn (record { boards = boards; events = x }) party q (task_of x party q) ≡ (if result then refused reason.Taken else begins party u)
named_turn boards x party q u name taken result e f same r =
    let mine : taken ≡ holds_thing boards.standing party name = subst (λ (o : Option (List ℕ)). IfSome o (λ n. taken ≡ holds_thing boards.standing party n)) f same in
    rw (e, f) (ap (λ (b : Bool). if b then refused reason.Taken else begins party u) (sym (r ∙ ap (λ (b : Bool). b || holds_event x party name) mine)))

-- ---- things

-- what is held tells what is listened on and notified
listened_is : (o : Option Holding) → listened_in o ≡ listened_event (option_map thing_in o)
listened_is None = refl
listened_is (Some (holding.Listener n)) = refl
listened_is (Some (holding.Notifier n)) = refl

notified_is : (o : Option Holding) → notified_in o ≡ notified (option_map thing_in o)
notified_is None = refl
notified_is (Some (holding.Listener n)) = refl
notified_is (Some (holding.Notifier n)) = refl

a_listener : (y : Option EventThing) (n : ℕ) → listened_event y ≡ Some n → y ≡ Some (listener n)
a_listener None n e = absurd cc
a_listener (Some (listener m)) n e = (let same : m ≡ n = cc in ap (λ (k : ℕ). Some (listener k)) same)
a_listener (Some (notifier m)) n e = absurd cc

a_notifier : (y : Option EventThing) (n : ℕ) → notified y ≡ Some n → y ≡ Some (notifier n)
a_notifier None n e = absurd cc
a_notifier (Some (listener m)) n e = absurd cc
a_notifier (Some (notifier m)) n e = (let same : m ≡ n = cc in ap (λ (k : ℕ). Some (notifier k)) same)

module _ (t : EventTable) (held : Held) (x : ScriptEvents) (count : ℕ) (sound : AreSoundEvents x count) (holds : Holds t held x) (party name : List ℕ) where
  says_listened : listened_in (held party name) ≡ listened_event (x.things party name)
  says_listened = listened_is (held party name) ∙ ap listened_event (holds.things party name)

  says_notified : notified_in (held party name) ≡ notified (x.things party name)
  says_notified = notified_is (held party name) ∙ ap notified (holds.things party name)

  -- the event that is listened on stands
  pub listened_there : (n : ℕ) → Some n ≡ listened_in (held party name) → IsThere t x n
  listened_there n e = (listener_there t held x count sound holds party name n (a_listener (x.things party name) n (sym (e ∙ says_listened)))).0

  -- and the one that is notified
  pub notified_there : (n : ℕ) → Some n ≡ notified_in (held party name) → IsThere t x n
  notified_there n e = (notifier_there t held x count sound holds party name n (a_notifier (x.things party name) n (sym (e ∙ says_notified)))).0

  -- a call on it
  pub on_notified : (n : ℕ) → Some n ≡ notified_in (held party name) → (make : Event → EventCall) → and_then (notified (x.things party name)) (on_event x make) ≡ on_event x make n
  on_notified n e make = rw (sym (e ∙ says_notified)) refl

  pub on_listened : (n : ℕ) → Some n ≡ listened_in (held party name) → (make : Event → EventCall) → and_then (listened_event (x.things party name)) (on_event x make) ≡ on_event x make n
  on_listened n e make = rw (sym (e ∙ says_listened)) refl

  -- where there is none
  pub no_notified : None ≡ notified_in (held party name) → (boards : State) (id : ℕ)
      → task_turn (record { boards = boards; events = x }) party (request.Notify name id) (task_of x party (request.Notify name id)) ≡ refused reason.Unknown
  no_notified e boards id = rw (sym (e ∙ says_notified)) refl

  pub no_listened : None ≡ listened_in (held party name) → (boards : State) (many : Bool) (mode : WaitMode)
      → task_turn (record { boards = boards; events = x }) party (request.Wait name many mode) (task_of x party (request.Wait name many mode)) ≡ refused reason.Unknown
  no_listened e boards many mode = rw (sym (e ∙ says_listened)) refl

-- a call on an event that stands begins
pub act_turn : (boards : State) (t : EventTable) (x : ScriptEvents) (party : List ℕ) (q : EventRequest) (n : ℕ) (make : Event → EventCall) (call : EventCall) (k : CallTask) → IsThere t x n → IsSomeAnd (event_at t n) (λ e. call ≡ make e)
    → name_made q ≡ None → task_of x party q ≡ on_event x make n → IsNewAct k n call → IsChecked (task_turn (record { boards = boards; events = x }) party q (task_of x party q)) party (Ok k)
act_turn boards t x party q n make call k there made none of new =
    let is : call ≡ make there.st.event = (rw there.found at made) in
    let on : on_event x make n ≡ Some (act n call) = rw (event_of-some x.session.stands n there.st there.stands) (ap (λ (c : EventCall). Some (act n c)) (sym is)) in
    (act n call, rw (of ∙ on, none) refl, new)

-- ---- beginnings

new_act : (t : CallTask) (n begun : ℕ) (c : EventCall) → IsNewAct t n c → IsTaskOf t (record { on = n; call = new_call begun c })
new_act (task.Listen name kind event max) n begun c h = absurd h
new_act (task.Notifier name kind event) n begun c h = absurd h
new_act (task.Act a) n begun c h = record { event = h.0; call = h.1; told = h.2; waited = h.3 }

module _ (m new : PartyEvents) (x : ScriptEvents) (rep : Represents m x) (party : List ℕ) (t : CallTask) (events : new.events ≡ m.events) (things : new.things ≡ m.things) (calls : HasTask (task_in m) (task_in new) party (Some t))
    (free : (x.asked party ≡ None) × (x.session.doing party ≡ None)) where
  held : Holds new.events (held_in new.things) x
  held = rw (events, things) rep.held

  stands_for : (u : EventTask) → IsTask t u → Represents new (task_begun x party u)
  stands_for (ask q) h = record {
    held = record { once = held.once; events = held.events; drawn = held.drawn; names = held.names; things = held.things };
    calls = ask_changed (task_in m) (task_in new) party (Some t) calls x.asked x.session.doing rep.calls (Some q) h;
  }
  stands_for (act n c) h = record {
    held = record { once = held.once; events = held.events; drawn = held.drawn; names = held.names; things = held.things };
    calls = (let d : PartyCall = record { on = n; call = new_call x.session.begun c } in
        call_changed (task_in m) (task_in new) party (Some t) calls x.asked x.session.doing rep.calls (Some d) (rw free.0 (new_act t n x.session.begun c h)));
  }

  -- a call has begun
  pub begun_turn : (turn : EventTurn) (u : EventTask) → turn ≡ begins party u → IsTask t u → IsTurned new x turn None
  begun_turn turn u e h = record { told_is = rw e refl; represents = λ a. rw e (stands_for u h) }
