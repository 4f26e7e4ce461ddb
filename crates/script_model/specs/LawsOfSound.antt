-- A script begins with the facts of `IsSoundScript`, and each line with a right answer keeps them.
use Rattle.std.specs.Prelude.{◌≡◌, ℕ, ◌+◌, ◌<◌, true, List, length, IsSomeAnd, Some}
use Rattle.board_event_model.specs.declared.kind.EventKind.{EventKind}
use Rattle.board_event_model.specs.EventMemory.{Event, is_bits}
use Rattle.board_event_model.specs.EventSessions.{StandingEvent, event_of}
use Rattle.script_model.specs.declared.line.ScriptLine.{ScriptLine}
use Rattle.script_model.specs.ScriptAnswers.{ScriptAnswer}
use Rattle.script_model.specs.ScriptEvents.{ScriptEvents, listener, notifier}
use Rattle.script_model.specs.ScriptTurns.{ScriptState}
use Rattle.script_model.specs.ScriptSession.{IsLawful, IsRight, Session, after, start, state_after}
use Rattle.script_model.specs.SoundEvents.{HoldersAreNamed, IsListening, IsNamed, IsSoundScript, ListenersAreThings, NotifiersAreThings}

-- no lawful session ever leaves the sound states
pub record StaysSound : Type 0 where
  pub at_start : IsSoundScript start 0
  pub after : (s : ScriptState) (l : ScriptLine) (a : ScriptAnswer) (n : ℕ) → IsRight s l a → IsSoundScript s n → IsSoundScript (after s l a) (n + 1)

-- so what holds after a session speaks of no more than its lines
abbrev pub SessionsAreSound : Type 0
SessionsAreSound = (pairs : Session) → IsLawful pairs → IsSoundScript (state_after start pairs) (length pairs)

-- the event counts a notifier, and holds its name by that if it is one of bits
pub record IsNotified (x : ScriptEvents) (n : ℕ) (e : Event) : Type 0 where
  pub counts : 0 < e.notifiers
  pub named : is_bits e.kind ≡ true → x.names e.kind e.name ≡ Some n

-- who holds a name and the names agree both ways: a name is that of an event which has it and which somebody holds by it (of a queue its listener, of bits
-- also a notifier), and such an event is the one of its name;
-- its listener is held exactly while the listener's party has it under a name; and it counts exactly the notifiers that parties have under names
pub record NamesAgree : Type 0 where
  pub by_name : (s : ScriptState) (count : ℕ) → IsSoundScript s count
      → (k : EventKind) (text : List ℕ) (n : ℕ) → s.events.names k text ≡ Some n → IsSomeAnd (event_of s.events.session.stands n) (IsNamed k text)
  pub by_event : (s : ScriptState) (count : ℕ) → IsSoundScript s count → HoldersAreNamed s.events
  pub by_thing : (s : ScriptState) (count : ℕ) → IsSoundScript s count
      → (p name : List ℕ) (n : ℕ) → s.events.things p name ≡ Some (listener n) → IsSomeAnd (s.events.session.stands n) (IsListening p)
  pub by_listener : (s : ScriptState) (count : ℕ) → IsSoundScript s count → ListenersAreThings s.events
  pub by_notifier : (s : ScriptState) (count : ℕ) → IsSoundScript s count
      → (p name : List ℕ) (n : ℕ) → s.events.things p name ≡ Some (notifier n) → IsSomeAnd (event_of s.events.session.stands n) (IsNotified s.events n)
  pub by_count : (s : ScriptState) (count : ℕ) → IsSoundScript s count
      → (n : ℕ) (st : StandingEvent) → s.events.session.stands n ≡ Some st → 0 < st.event.notifiers → (p : List ℕ) × (name : List ℕ) × (s.events.things p name ≡ Some (notifier n))
  pub by_notifiers : (s : ScriptState) (count : ℕ) → IsSoundScript s count → NotifiersAreThings s.events
