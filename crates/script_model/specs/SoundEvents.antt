-- The facts on events that each line of a lawful script keeps.
use Rattle.std.specs.Prelude.{◌≡◌, ℕ, zero, suc, ◌<◌, ◌≤◌, ◌^◌, true, List, length, Option, Some, None, IsSome, IsSomeAnd}
use Rattle.std.specs.List.{AllByRecursion}
use Rattle.board_event_model.specs.declared.kind.EventKind.{EventKind}
use Rattle.board_event_model.specs.EventMemory.{Event, holds_name}
use Rattle.board_event_model.specs.EventCalls.{EventCall, RunningCall, a_notify, a_wait, call_of}
use Rattle.board_event_model.specs.EventSessions.{EventLine, EventSession, IsEventSession, PartyCall, StandingEvent, event_of, session_of}
use Rattle.board_model.specs.LineGrammar.{IsNumber}
use Rattle.board_model.specs.Things.{with_at}
use Rattle.board_model.specs.Parties.{free}
use Rattle.script_model.specs.ScriptGrammar.{is_event_name}
use Rattle.script_model.specs.ScriptEvents.{EventAsk, EventThing, ScriptEvents, listener, notifier, runs_on_events, to_listen, to_notify}
use Rattle.script_model.specs.ScriptTurns.{ScriptState}

-- the events and the calls on them are those of a session of events, in which each line is allowed
pub record IsOfSession (x : ScriptEvents) : Type 0 where
  pub lines : List EventLine
  pub allowed : IsEventSession lines
  pub is : x.session ≡ session_of lines

-- the party has the listener of the event
pub record IsListening (party : List ℕ) (st : StandingEvent) : Type 0 where
  pub owner : st.listener ≡ party
  pub held : st.event.held ≡ true

-- the event of a thing stands, with the listener that the thing is
abbrev pub IsEventThing : ScriptEvents → List ℕ → EventThing → Type 0
IsEventThing x party (listener n) = IsSomeAnd (x.session.stands n) (IsListening party)
IsEventThing x party (notifier n) = IsSome (x.session.stands n)

-- a notify is a call of this notifier, a wait is a call of this listener
abbrev pub IsCallOfThing : EventThing → ℕ → EventCall → Type 0
IsCallOfThing (listener n) on (a_notify c) = ⊥
IsCallOfThing (listener n) on (a_wait w) = n ≡ on
IsCallOfThing (notifier n) on (a_notify c) = n ≡ on
IsCallOfThing (notifier n) on (a_wait w) = ⊥

-- the party still holds the listener or notifier whose call runs
pub record IsHeldCall (x : ScriptEvents) (party : List ℕ) (d : PartyCall) : Type 0 where
  pub name : List ℕ
  pub thing : EventThing
  pub found : x.things party name ≡ Some thing
  pub uses : IsCallOfThing thing d.on d.call.first

-- an event of this kind and name, whose name is held
pub record IsNamed (k : EventKind) (name : List ℕ) (e : Event) : Type 0 where
  pub kind : e.kind ≡ k
  pub name_is : e.name ≡ name
  pub held : holds_name e ≡ true

-- an event that holds its name is the one of that name
abbrev pub HoldersAreNamed : ScriptEvents → Type 0
HoldersAreNamed x = (n : ℕ) (st : StandingEvent) → x.session.stands n ≡ Some st → holds_name st.event ≡ true → x.names st.event.kind st.event.name ≡ Some n

-- the party of a listener that is held has it under a name
abbrev pub ListenersAreThings : ScriptEvents → Type 0
ListenersAreThings x = (n : ℕ) (st : StandingEvent) → x.session.stands n ≡ Some st → st.event.held ≡ true → (name : List ℕ) × (x.things st.listener name ≡ Some (listener n))

-- so many things are notifiers of event n: none is, or one is, and one fewer are beside it
abbrev pub AreNotifiers : (List ℕ → List ℕ → Option EventThing) → ℕ → ℕ → Type 0
AreNotifiers things n zero = (p name : List ℕ) → things p name ≡ Some (notifier n) → ⊥
AreNotifiers things n (suc k) = (p : List ℕ) × (name : List ℕ) × (things p name ≡ Some (notifier n)) × AreNotifiers (with_at things p name None) n k

-- an event counts as many notifiers as parties have of it, each under a name
abbrev pub NotifiersAreThings : ScriptEvents → Type 0
NotifiersAreThings x = (n : ℕ) (st : StandingEvent) → x.session.stands n ≡ Some st → AreNotifiers x.things n st.event.notifiers

-- a name and a greatest id of the grammar, and no more notifiers than lines
pub record IsFormedEvent (count : ℕ) (e : Event) : Type 0 where
  pub text : is_event_name e.name ≡ true
  pub max : e.max ≤ 65535
  pub notifiers : e.notifiers ≤ count

-- what is asked for has a name of the grammar
abbrev pub IsFormedAsk : EventAsk → Type 0
IsFormedAsk (to_listen name k event max) = (is_event_name event ≡ true) × (max ≤ 65535)
IsFormedAsk (to_notify name k event) = is_event_name event ≡ true

-- the name for what is asked for
abbrev pub name_asked : EventAsk → List ℕ
name_asked (to_listen name k event max) = name
name_asked (to_notify name k event) = name

-- the events of a script, after so many lines
pub record AreSoundEvents (x : ScriptEvents) (count : ℕ) : Type 0 where
  pub session : IsOfSession x
  -- an event that stands has a number that was given
  pub numbered : (n : ℕ) (st : StandingEvent) → x.session.stands n ≡ Some st → n ≤ x.session.count
  pub things : (p n : List ℕ) (t : EventThing) → x.things p n ≡ Some t → IsEventThing x p t
  -- a party has a listener under one name
  pub single : (p m n : List ℕ) (k : ℕ) → x.things p m ≡ Some (listener k) → x.things p n ≡ Some (listener k) → m ≡ n
  pub calls : (p : List ℕ) (d : PartyCall) → x.session.doing p ≡ Some d → IsHeldCall x p d
  pub names : (k : EventKind) (text : List ℕ) (n : ℕ) → x.names k text ≡ Some n → IsSomeAnd (event_of x.session.stands n) (IsNamed k text)
  pub holders : HoldersAreNamed x
  pub listeners : ListenersAreThings x
  pub notifiers : NotifiersAreThings x
  -- a party that asks runs no other call on events
  pub apart : (p : List ℕ) (q : EventAsk) → x.asked p ≡ Some q → x.session.doing p ≡ None
  pub asked : (p : List ℕ) (q : EventAsk) → x.asked p ≡ Some q → IsFormedAsk q
  -- the name for what it asks for is free
  pub unheld : (p : List ℕ) (q : EventAsk) → x.asked p ≡ Some q → x.things p (name_asked q) ≡ None
  pub formed : (n : ℕ) (st : StandingEvent) → x.session.stands n ≡ Some st → IsFormedEvent count st.event
  -- no line makes more than one event, or more than one access
  pub made : x.session.count ≤ count
  pub taken : length x.session.history ≤ count

-- all are numbers of 64 bits
abbrev pub AreNumbers : List ℕ → Type 0
AreNumbers ids = AllByRecursion IsNumber ids

-- the id of a notify is a number
abbrev pub IsNumberedCall : EventCall → Type 0
IsNumberedCall (a_notify n) = IsNumber n.id
IsNumberedCall (a_wait w) = Unit {0}

-- and so are the ids that a running call has told
pub record IsNumbered (r : RunningCall) : Type 0 where
  pub call : IsNumberedCall (call_of r)
  pub told : AreNumbers r.told

-- the ids in queues and those of running calls are numbers
pub record AreNumbered (s : EventSession) : Type 0 where
  pub queues : (n : ℕ) (st : StandingEvent) → s.stands n ≡ Some st → AreNumbers st.event.queue
  pub calls : (p : List ℕ) (d : PartyCall) → s.doing p ≡ Some d → IsNumbered d.call

-- what is true of a script after so many lines
pub record IsSoundScript (s : ScriptState) (count : ℕ) : Type 0 where
  pub events : AreSoundEvents s.events count
  pub numbers : count < 2 ^ 63 → AreNumbered s.events.session
  -- a party whose call on events runs has no call on boards
  pub free : (p : List ℕ) → runs_on_events s.events p ≡ true → s.boards.parties p ≡ free
