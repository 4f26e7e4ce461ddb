-- The events of a script as a checker keeps them, and which events of the definitions they stand for.
use Rattle.std.specs.Prelude.{◌≡◌, ℕ, Bool, ◌+◌, ◌-◌, ◌^◌, ◌<◌, ◌≤◌, ◌==◌, if◌then◌else◌, List, length, Option, Some, None, IsSome, IsSomeAnd, is_some, nat_lt, slice_index_or, true, false, ⊤}
use Rattle.std.specs.Str.{bytes_eq}
use Rattle.std.specs.HashMap.{get, spare}
use Rattle.board_event_model.specs.declared.kind.EventKind.{EventKind}
use Rattle.board_event_model.specs.declared.kind.EventKind.TheVariants as event_kind
use Rattle.board_event_model.specs.EventMemory.{Event, new_event, with_notifier}
use Rattle.board_event_model.specs.EventSessions.{StandingEvent, all_gone, change_at, event_of, gone_with}
use Rattle.script_model.specs.ScriptEvents.{name_held, names_left}
use Rattle.board_model.specs.Requests.{and_then}
use Rattle.script_event_rows.specs.EventRows.{StandsFor}
use Rattle.script_event_rows.specs.declared.event_row.EventRow.{EventRow}
use Rattle.script_event_tables.specs.declared.event_names.EventNames.{EventNames}
use Rattle.script_event_tables.specs.declared.event_table.EventTable.{EventTable}

-- ---- names

-- the event that holds a name of a kind
abbrev pub Names : Type 0
Names = EventKind → List ℕ → Option ℕ

-- the numbers under the names of a kind, of those of sets and of queues
abbrev pub of_kind : (List ℕ → Option ℕ) → (List ℕ → Option ℕ) → EventKind → List ℕ → Option ℕ
of_kind sets queues event_kind.Bits = sets
of_kind sets queues event_kind.Queue = queues

-- the number that is kept under a name of a kind
abbrev pub kept_at : EventNames → EventKind → List ℕ → Option ℕ
kept_at t k name = of_kind (get bytes_eq t.sets) (get bytes_eq t.queues) k name

-- each name is kept as it is held
abbrev pub AreNames : EventNames → Names → Type 0
AreNames t names = (k : EventKind) (name : List ℕ) → kept_at t k name ≡ names k name

-- there is memory for one name more of a kind
abbrev pub HasRoom : EventNames → EventKind → Type 0
HasRoom t event_kind.Bits = 0 < spare t.sets
HasRoom t event_kind.Queue = 0 < spare t.queues

-- the names that were kept have become these
abbrev pub NamesBecome : EventNames → EventNames → (Names → Names) → Type 0
NamesBecome old new change = (names : Names) → AreNames old names → AreNames new (change names)

-- ---- events

-- the events by their numbers, of which so many were made, and who holds a name
pub record EventsThatStand : Type 0 where
  pub stands : ℕ → Option StandingEvent
  pub count : ℕ
  pub names : Names

-- event n is at place n - 1, no other was made, and names are kept as they are held
pub record AreEvents (t : EventTable) (s : EventsThatStand) : Type 0 where
  pub count : length t.rows.items ≡ s.count
  pub rows : (i : ℕ) (d : EventRow) → i < length t.rows.items → IsSomeAnd (event_of s.stands (i + 1)) (StandsFor (slice_index_or t.rows.items i d))
  pub names : AreNames t.names s.names
  pub each : length t.listeners ≡ s.count
  pub owners : (i : ℕ) (d : List ℕ) → i < length t.listeners → IsSomeAnd (s.stands (i + 1)) (λ st. st.listener ≡ slice_index_or t.listeners i d)

-- the events for which the table stood have become these
abbrev pub EventsBecome : EventTable → EventTable → (EventsThatStand → EventsThatStand) → Type 0
EventsBecome old new change = (s : EventsThatStand) → AreEvents old s → AreEvents new (change s)

-- with one event changed
abbrev pub with_changed : ℕ → (Event → Event) → EventsThatStand → EventsThatStand
with_changed n f s = record s { stands = change_at s.stands n f }

-- with a new event of a party's listener, which holds its name
abbrev pub with_new : List ℕ → EventKind → List ℕ → ℕ → EventsThatStand → EventsThatStand
with_new party k name max s = record {
  stands = λ m. if m == s.count + 1 then Some (record { event = new_event k name max; listener = party }) else s.stands m;
  count = s.count + 1;
  names = name_held s.names k name (Some (s.count + 1));
}

-- an event with this number was made
pub record IsMade (t : EventTable) (n : ℕ) : Type 0 where
  pub first : 1 ≤ n
  pub last : n ≤ length t.rows.items

-- this holds of event n, whichever events the table stands for
abbrev pub OfEvent : EventTable → ℕ → (Event → Type 0) → Type 0
OfEvent t n P = (s : EventsThatStand) → AreEvents t s → IsSomeAnd (event_of s.stands n) P

-- the table stands for events of which this holds of event n
abbrev pub OfSomeEvent : EventTable → ℕ → (Event → Type 0) → Type 0
OfSomeEvent t n P = (s : EventsThatStand) × AreEvents t s × IsSomeAnd (event_of s.stands n) P

-- before any was made
abbrev pub nothing_stands : EventsThatStand
nothing_stands = record { stands = λ n. None; count = 0; names = λ k name. None }

-- a listener of a new event was asked for: it was refused, since the name is held, or the event has the next number
abbrev pub HasListened : EventTable → EventTable → List ℕ → EventKind → List ℕ → ℕ → Option ℕ → Type 0
HasListened old new party k name max None = (s : EventsThatStand) → AreEvents old s → (is_some (s.names k name) ≡ true) × AreEvents new s
HasListened old new party k name max (Some n) = (s : EventsThatStand) → AreEvents old s → (s.names k name ≡ None) × (n ≡ s.count + 1) × AreEvents new (with_new party k name max s)

-- ---- notifiers, and what goes

-- the events fit together: each that stands or is named has a number that was drawn, and none has as many notifiers as fit
pub record FitTogether (s : EventsThatStand) : Type 0 where
  pub first : s.stands 0 ≡ None
  pub numbered : (n : ℕ) (e : Event) → event_of s.stands n ≡ Some e → n ≤ s.count
  pub named : (k : EventKind) (name : List ℕ) (n : ℕ) → s.names k name ≡ Some n → IsSome (event_of s.stands n)
  pub few : (n : ℕ) (e : Event) → event_of s.stands n ≡ Some e → e.notifiers < 2 ^ 64 - 1

-- the table stands for such events
abbrev pub IsSoundTable : EventTable → Type 0
IsSoundTable t = (s : EventsThatStand) × AreEvents t s × FitTogether s

-- no event with a listener that is held has the name
abbrev pub IsUnlistened : Option Event → Type 0
IsUnlistened None = ⊤
IsUnlistened (Some e) = e.held ≡ false

-- a notifier of the event of a name was asked for: it has no listener, or it has this number and one notifier more
abbrev pub HasNotified : EventTable → EventTable → EventKind → List ℕ → Option ℕ → Type 0
HasNotified old new k name None = (s : EventsThatStand) → AreEvents old s → IsUnlistened (and_then (s.names k name) (event_of s.stands)) × AreEvents new s
HasNotified old new k name (Some n) = (s : EventsThatStand) → AreEvents old s
    → (s.names k name ≡ Some n) × IsSomeAnd (event_of s.stands n) (λ e. e.held ≡ true) × AreEvents new (with_changed n with_notifier s)

-- the names, where the event that was found is held by nobody by its name
abbrev pub names_settled : Names → ℕ → Option Event → Names
names_settled names n None = names
names_settled names n (Some e) = names_left names n e

-- the name of event n goes where nobody holds the event by it
abbrev pub with_settled : ℕ → EventsThatStand → EventsThatStand
with_settled n s = record s { names = names_settled s.names n (event_of s.stands n) }

-- a listener or a notifier of event n goes
abbrev pub with_released : ℕ → (Event → Event) → EventsThatStand → EventsThatStand
with_released n f s = with_settled n (with_changed n f s)

-- a party was abandoned, with the listeners that it holds
abbrev pub with_abandoned : List ℕ → EventsThatStand → EventsThatStand
with_abandoned party s = record s { stands = all_gone s.stands party }

-- the event at a place, where the places from i on were gone through
abbrev pub after_at : Bool → List ℕ → StandingEvent → Event
after_at b party st = if b then st.event else (gone_with party st).event

-- the events at the places from i on were gone through
pub record IsPartGone (i : ℕ) (party : List ℕ) (t : EventTable) (s : EventsThatStand) : Type 0 where
  pub count : length t.rows.items ≡ s.count
  pub rows : (k : ℕ) (d : EventRow) → k < length t.rows.items → IsSomeAnd (s.stands (k + 1)) (λ st. StandsFor (slice_index_or t.rows.items k d) (after_at (nat_lt k i) party st))
  pub names : AreNames t.names s.names
  pub each : length t.listeners ≡ s.count
  pub owners : (k : ℕ) (d : List ℕ) → k < length t.listeners → IsSomeAnd (s.stands (k + 1)) (λ st. st.listener ≡ slice_index_or t.listeners k d)
