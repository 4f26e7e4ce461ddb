-- The table of events: what stands under a number and a name, and what the calls on it answer and leave.
use Rattle.std.specs.Prelude.{◌≡◌, ◌≢◌, ◌≤◌, ◌<◌, IfSome, IsSome, IsSomeAnd, ℕ, ◌+◌, ◌-◌, ◌^◌, true, false, ◌==◌, not, nat_lt, if◌then◌else◌, List, [], length, Option, Some, None, Result, Ok, Err, refl}
use Rattle.std.specs.Coded.{Coded, code_by, coded×, coded_ℕ, coded_list}
use Rattle.std.specs.Ordering.{nat_cmp}
use Rattle.std.specs.FinSet as set
use Rattle.std.specs.List.{All}
use Rattle.std.specs.List.Sorted.{IsStrictlySortedBy}
use Rattle.std.specs.Map.{keys_of, lookup, remove_entry, set_value, values_of}
use Rattle.std.specs.BTreeMap.{insert_entry, is_at}
use Rattle.board_names.specs.Table.{NamesAscend, at, putting, without}
use Rattle.board_names.specs.declared.errors.event.ListenerCreateError.{ListenerCreateError}
use Rattle.board_names.specs.declared.errors.event.ListenerCreateError.TheVariants as listener_error
use Rattle.board_names.specs.declared.errors.event.NotifierCreateError.{NotifierCreateError}
use Rattle.board_names.specs.declared.errors.event.NotifierCreateError.TheVariants as notifier_error
use Rattle.board_event_model.specs.declared.kind.EventKind.{EventKind}
use Rattle.board_event_model.specs.declared.kind.EventKind.TheVariants as kind
use Rattle.board_event_model.specs.declared.access.EventAccess.{EventAccess}
use Rattle.board_event_model.specs.Ids.{has}
use Rattle.board_event_model.specs.EventMemory.{CanPerform, Event, holds_name, has_holder, new_event}
use Rattle.board_event_core.specs.Memories.{event_code}

-- how many numbers were drawn, the events that stand by their numbers, and the held names of each kind with the number of the event that holds it
pub record EventTable : Type 0 where
  pub drawn : ℕ
  pub events : List (ℕ × Event)
  pub bits : List (List ℕ × ℕ)
  pub queues : List (List ℕ × ℕ)

-- no events
abbrev pub empty_table : EventTable
empty_table = record { drawn = 0; events = []; bits = []; queues = [] }

-- the table of these parts
abbrev pub table_of : ℕ → List (ℕ × Event) → List (List ℕ × ℕ) → List (List ℕ × ℕ) → EventTable
table_of drawn events bits queues = record { drawn = drawn; events = events; bits = bits; queues = queues }

-- the code of a table
abbrev pub table_code : Coded EventTable
table_code = code_by (ℕ × (List (ℕ × Event) × (List (List ℕ × ℕ) × List (List ℕ × ℕ))))
    (coded× coded_ℕ (coded× (coded_list (coded× coded_ℕ event_code)) (coded× (coded_list (coded× (coded_list coded_ℕ) coded_ℕ)) (coded_list (coded× (coded_list coded_ℕ) coded_ℕ)))))
    (λ t. (t.drawn, (t.events, (t.bits, t.queues))))
    (λ p. record { drawn = p.0; events = p.1.0; bits = p.1.1.0; queues = p.1.1.1 })
    (λ _. refl)

-- ---- numbers

-- the event that stands under a number
abbrev pub event_at : EventTable → ℕ → Option Event
event_at t n = lookup (is_at (nat_cmp n)) t.events

-- the table with this event under a number that has one
abbrev pub with_event : EventTable → ℕ → Event → EventTable
with_event t n e = record t { events = set_value (is_at (nat_cmp n)) t.events e }

-- the table with nothing under a number
abbrev pub without_event : EventTable → ℕ → EventTable
without_event t n = record t { events = remove_entry (is_at (nat_cmp n)) t.events }

-- the table with one event changed
abbrev pub changed : EventTable → ℕ → (Event → Event) → EventTable
changed t n f = elim (event_at t n) [ None ↦ t | Some e ↦ with_event t n (f e) ]

-- the table with this event under a new number
abbrev pub with_new_event : EventTable → ℕ → Event → EventTable
with_new_event t n e = record t { events = insert_entry nat_cmp t.events n e }

-- the event under a number stands, and can take the access
abbrev pub CanPerformAt : EventTable → ℕ → EventAccess → Type 0
CanPerformAt t n access = IsSomeAnd (event_at t n) (λ e. CanPerform e access)

-- ---- names

-- the held names of a kind
abbrev pub names_of : EventKind → EventTable → List (List ℕ × ℕ)
names_of kind.Bits t = t.bits
names_of kind.Queue t = t.queues

-- the table with these names of a kind
abbrev pub with_names : EventKind → EventTable → List (List ℕ × ℕ) → EventTable
with_names kind.Bits t names = record t { bits = names }
with_names kind.Queue t names = record t { queues = names }

-- the table with a name of this kind under a number
abbrev pub with_name : EventKind → EventTable → List ℕ → ℕ → EventTable
with_name k t name n = with_names k t (putting (names_of k t) name n)

-- the table without a name of this kind
abbrev pub without_name : EventKind → EventTable → List ℕ → EventTable
without_name k t name = with_names k t (without (names_of k t) name)

-- the names without this one, where the event with this number holds it
abbrev pub freed : List (List ℕ × ℕ) → List ℕ → ℕ → List (List ℕ × ℕ)
freed names name n = elim (at names name) [ None ↦ names | Some m ↦ if m == n then without names name else names ]

-- the table without a name of this kind, where the event with this number holds it
abbrev pub with_name_freed : EventKind → EventTable → List ℕ → ℕ → EventTable
with_name_freed k t name n = with_names k t (freed (names_of k t) name n)

-- the table without the name of an event, where that event holds it
abbrev pub without_name_of : EventTable → ℕ → Event → EventTable
without_name_of t n e = with_name_freed e.kind t e.name n

-- ---- holders

-- the event of a held name: it is of the name's kind, it has the name, and somebody holds the name
pub record HoldsName (k : EventKind) (full_name : List ℕ) (e : Event) : Type 0 where
  pub kind : e.kind ≡ k
  pub name : e.name ≡ full_name
  pub held : holds_name e ≡ true

-- the event under this number stands and holds the name
abbrev pub HoldsNameAt : EventTable → EventKind → List ℕ → ℕ → Type 0
HoldsNameAt t k name n = IsSomeAnd (event_at t n) (HoldsName k name)

-- where the name is held, its number is that of an event that stands and holds it
abbrev pub NameStands : EventTable → EventKind → List ℕ → Type 0
NameStands t k name = (n : ℕ) → at (names_of k t) name ≡ Some n → HoldsNameAt t k name n

-- the ids of every event: those of a set are at most its greatest, a queue has 512 at most, and a kind has none of the other's
pub record IsEvent (e : Event) : Type 0 where
  pub sized : e.max < 2 ^ 64
  pub low : (id : ℕ) → has e.pending id ≡ true → id ≤ e.max
  pub few : length e.queue ≤ 512
  pub set_alone : e.kind ≡ kind.Bits → e.queue ≡ []
  pub queue_alone : e.kind ≡ kind.Queue → e.pending ≡ set.empty

-- who holds an event that stands: a listener or a notifier, and not so many notifiers that their count ends
pub record IsAttended (e : Event) : Type 0 where
  pub holder : has_holder e ≡ true
  pub counted : e.notifiers ≤ 2 ^ 64 - 2

-- what each call keeps: a held name has the number of an event that stands and holds it, no event has a number above the
-- last one drawn, the ids of each event are as they may be, and somebody holds each event
pub record IsKept (t : EventTable) : Type 0 where
  pub named : (k : EventKind) (name : List ℕ) → NameStands t k name
  pub numbered : (n : ℕ) → IsSome (event_at t n) → n ≤ t.drawn
  pub sound : All IsEvent (values_of t.events)
  pub attended : (n : ℕ) → IfSome (event_at t n) IsAttended

-- what holds of every table of events: what each call keeps, and the numbers ascend, and the names of each kind, so each
-- stands once
pub record IsEventTable (t : EventTable) : Type 0 where
  pub kept : IsKept t
  pub numbers : IsStrictlySortedBy nat_cmp (keys_of t.events)
  pub names : (k : EventKind) → NamesAscend (names_of k t)

-- its listener counts as gone
abbrev pub with_gone : Event → Event
with_gone e = record e { gone = true }

-- its name goes where nobody holds it
abbrev pub named_with : EventTable → ℕ → Event → EventTable
named_with t n e = if holds_name e then t else without_name_of t n e

-- the table where event n is e and a holder of it was let go: its name goes with those who hold it, and the event with its last holder
abbrev pub settled_with : EventTable → ℕ → Event → EventTable
settled_with t n e = (if has_holder e then named_with t n e else without_event (named_with t n e) n)

-- the table so settled for the event that stands under a number, where one does
abbrev pub settled : EventTable → ℕ → EventTable
settled t n = elim (event_at t n) [ None ↦ t | Some e ↦ settled_with t n e ]

-- ---- what the calls answer and leave

-- the number that a listen draws, or why it is refused, by what stands under the name
abbrev pub listen_answer : EventTable → Option ℕ → Result ℕ ListenerCreateError
listen_answer t (Some n) = Err listener_error.AlreadyExists
listen_answer t None = if nat_lt t.drawn (2 ^ 64 - 2) then Ok (t.drawn + 1) else Err listener_error.NumbersSpent

-- what a listen under this name answers
abbrev pub answer_to_listen : EventTable → EventKind → List ℕ → Result ℕ ListenerCreateError
answer_to_listen t k name = listen_answer t (at (names_of k t) name)

-- the table after a listen
abbrev pub table_listened : EventTable → EventKind → List ℕ → ℕ → EventTable
table_listened t k name max = record (with_name k t name (t.drawn + 1)) {
  drawn = t.drawn + 1;
  events = insert_entry nat_cmp t.events (t.drawn + 1) (new_event k name max);
}

-- the event's number, or why it has no new notifier
abbrev pub notifier_of : ℕ → Event → Result ℕ NotifierCreateError
notifier_of n e = if not e.held then Err notifier_error.DoesNotExist else if nat_lt e.notifiers (2 ^ 64 - 2) then Ok n else Err notifier_error.NumbersSpent

-- the event under this number stands, and can have a notifier more
abbrev pub HasRoomAt : EventTable → ℕ → Type 0
HasRoomAt t n = IsSomeAnd (event_at t n) (λ e. e.notifiers < 2 ^ 64 - 2)

-- by what stands under a name: the number of its event, which stands, or why there is no new notifier
abbrev pub IsNotifierAnswer : EventTable → Result ℕ NotifierCreateError → Option ℕ → Type 0
IsNotifierAnswer t result None = result ≡ Err notifier_error.DoesNotExist
IsNotifierAnswer t result (Some n) = IsSomeAnd (event_at t n) (λ e. result ≡ notifier_of n e)

-- where the name had its event's number and nobody holds it any more, it is free
abbrev pub FreesName : EventTable → EventTable → ℕ → Event → Type 0
FreesName old new n e = holds_name e ≡ false → at (names_of e.kind old) e.name ≡ Some n → at (names_of e.kind new) e.name ≡ None

-- the event under this number is left so, and where nobody holds its name any more, the name is free
abbrev pub FreesNameOf : EventTable → EventTable → ℕ → (Event → Event) → Type 0
FreesNameOf old new n f = IsSomeAnd (event_at old n) (λ e. FreesName old new n (f e))

-- where nobody holds the event, none stands under its number
abbrev pub DropsEvent : EventTable → ℕ → Event → Type 0
DropsEvent t n e = has_holder e ≡ false → event_at t n ≡ None

-- the event under this number is left so, and where nobody holds it any more, none stands under the number
abbrev pub DropsEventOf : EventTable → EventTable → ℕ → (Event → Event) → Type 0
DropsEventOf old new n f = IsSomeAnd (event_at old n) (λ e. DropsEvent new n (f e))

-- ---- what the steps on the rows leave. No clause of a public call cites what follows

-- no name of these is new, and none has a new number
abbrev pub NamesAreLeft : List (List ℕ × ℕ) → List (List ℕ × ℕ) → Type 0
NamesAreLeft old new = (name : List ℕ) (n : ℕ) → at new name ≡ Some n → at old name ≡ Some n

-- so it is for both kinds
abbrev pub AreLeft : EventTable → EventTable → Type 0
AreLeft old new = (k : EventKind) → NamesAreLeft (names_of k old) (names_of k new)

-- where nobody holds its name, its name hasn't its number
abbrev pub LosesName : Event → EventTable → ℕ → Type 0
LosesName e t n = holds_name e ≡ false → at (names_of e.kind t) e.name ≢ Some n

-- the name of the event under this number goes where nobody holds it
abbrev pub SettlesName : EventTable → EventTable → ℕ → Type 0
SettlesName old new n = IsSomeAnd (event_at old n) (λ e. new ≡ named_with old n e)
