-- What clauses see of the ends of an event and of their builders, and the calls that make and release them.
use Rattle.std.specs.Prelude.{◌≡◌, ◌≢◌, ℕ, ◌-◌, ◌^◌, ◌<◌, List, Bool, codes, is_some, true, Some, Result, IsSomeAnd}
use Rattle.board_layout.specs.Answer.{with_value}
use Rattle.board_names.specs.Concept.{Named, Placed, path_of, placed, starting}
use Rattle.board_names.specs.Table.{at}
use Rattle.board_names.specs.declared.errors.event.ListenerCreateError.{ListenerCreateError}
use Rattle.board_names.specs.declared.errors.event.NotifierCreateError.{NotifierCreateError}
use Rattle.board_event_model.specs.declared.kind.EventKind.{EventKind}
use Rattle.board_event_model.specs.declared.kind.EventKind.TheVariants as kind
use Rattle.board_event_model.specs.EventMemory.{Event, new_event, without_listener, without_notifier}
use Rattle.board_event_core.specs.EventTable.{DropsEventOf, EventTable, FreesNameOf, IsNotifierAnswer, answer_to_listen, changed, event_at, names_of, settled, table_listened}

-- an end of an event: its name, the number of its event, and the greatest id
pub record End : Type 0 where
  pub place : Placed
  pub event : ℕ
  pub max : ℕ

-- a builder of a listener: its name, and the greatest id that was asked for
pub record ListenerAsked : Type 0 where
  pub named : Named
  pub max : ℕ

-- a builder of a listener as it begins: with the suffix of events, and up to id 65535
abbrev pub listener_asked : List ℕ → ListenerAsked
listener_asked name = record { named = starting name (codes ".event"); max = 65535 }

-- the end of this event
abbrev pub end_of : Named → ℕ → ℕ → End
end_of named max event = record { place = placed named; event = event; max = max }

-- ---- names

-- whether a name of this kind is held
abbrev pub is_held : EventKind → EventTable → List ℕ → Bool
is_held k t name = is_some (at (names_of k t) name)

-- ---- how a listener is made

-- what `create` answers over a table
abbrev pub create_answer : EventKind → ListenerAsked → EventTable → Result End ListenerCreateError
create_answer k asked t = with_value (end_of asked.named asked.max) (answer_to_listen t k (path_of asked.named))

-- the end's event is the one that was asked for
abbrev pub IsMade : EventKind → ListenerAsked → EventTable → End → Type 0
IsMade k asked t end = event_at t end.event ≡ Some (new_event k (path_of asked.named) asked.max)

-- the table with the event that was asked for
abbrev pub created : EventKind → ListenerAsked → EventTable → EventTable
created k asked t = table_listened t k (path_of asked.named) asked.max

-- ---- how a notifier is made

-- the number of an end's event
abbrev pub event_of : End → ℕ
event_of end = end.event

-- the greatest id that a notifier hands over: a queue takes any
abbrev pub greatest_of : EventKind → Event → ℕ
greatest_of kind.Bits e = e.max
greatest_of kind.Queue e = 2 ^ 64 - 1

-- what `open` answers over a table: the event of the name, or why there is no notifier
abbrev pub IsOpened : EventKind → Named → EventTable → Result End NotifierCreateError → Type 0
IsOpened k named t result = IsNotifierAnswer t (with_value event_of result) (at (names_of k t) (path_of named))

-- a notifier has its builder's name, and its event's greatest id
pub record IsNotifierOf (k : EventKind) (named : Named) (t : EventTable) (end : End) : Type 0 where
  pub place : end.place ≡ placed named
  pub max : IsSomeAnd (event_at t end.event) (λ e. end.max ≡ greatest_of k e)

-- ---- how ends are given up

-- no event of this kind stands under the number
abbrev pub NoneOfKind : EventKind → ℕ → EventTable → Type 0
NoneOfKind k n t = (e : Event) → event_at t n ≡ Some e → e.kind ≢ k

-- no event of the end's kind stands under its number
abbrev pub IsGone : EventKind → End → EventTable → Type 0
IsGone k end t = NoneOfKind k end.event t

-- the end's event stands, and its listener is held
abbrev pub HasListener : End → EventTable → Type 0
HasListener end t = IsSomeAnd (event_at t end.event) (λ e. e.held ≡ true)

-- the end's event stands, and has a notifier
abbrev pub HasNotifier : End → EventTable → Type 0
HasNotifier end t = IsSomeAnd (event_at t end.event) (λ e. 0 < e.notifiers)

-- where the listener was held and nobody holds its event's name any more, the name is free
abbrev pub FreesListenersName : End → EventTable → EventTable → Type 0
FreesListenersName end old new = HasListener end old → FreesNameOf old new end.event without_listener

-- where a notifier was held and nobody holds its event's name any more, the name is free
abbrev pub FreesNotifiersName : End → EventTable → EventTable → Type 0
FreesNotifiersName end old new = HasNotifier end old → FreesNameOf old new end.event without_notifier

-- where the listener was held and nobody holds its event any more, that event goes
abbrev pub DropsListenersEvent : End → EventTable → EventTable → Type 0
DropsListenersEvent end old new = HasListener end old → DropsEventOf old new end.event without_listener

-- where a notifier was held and nobody holds its event any more, that event goes
abbrev pub DropsNotifiersEvent : End → EventTable → EventTable → Type 0
DropsNotifiersEvent end old new = HasNotifier end old → DropsEventOf old new end.event without_notifier

-- the table once the listener of the end's event was let go
abbrev pub listener_gone : EventTable → End → EventTable
listener_gone t end = settled (changed t end.event without_listener) end.event

-- the table once a notifier of the end's event was let go
abbrev pub notifier_gone : EventTable → End → EventTable
notifier_gone t end = settled (changed t end.event without_notifier) end.event
