-- What a notify and the waits that don't wait answer over a lent table, and what they leave.
use Rattle.std.specs.Prelude.{◌≡◌, ◌↔◌, IfSome, ℕ, ◌+◌, ◌-◌, ◌*◌, ◌/◌, ◌^◌, false, not, ◌||◌, nat_lt, if◌then◌else◌, List, [], drop, slice_get, Option, Some, None, Result, Ok, Err}
use Rattle.std.specs.List.{FoldsTo}
use Rattle.std.specs.FinSet as set
use Rattle.board_names.specs.declared.errors.event.NotifierNotifyError.{NotifierNotifyError}
use Rattle.board_names.specs.declared.errors.event.NotifierNotifyError.TheVariants as error
use Rattle.board_event_model.specs.declared.access.EventAccess.TheVariants as access
use Rattle.board_event_model.specs.declared.access.EventAnswer.{EventAnswer}
use Rattle.board_event_model.specs.declared.access.EventAnswer.TheVariants as answer
use Rattle.board_event_model.specs.declared.kind.EventKind.{EventKind}
use Rattle.board_event_model.specs.declared.kind.EventKind.TheVariants as kind
use Rattle.board_event_model.specs.Ids.{Ids}
use Rattle.board_event_model.specs.EventMemory.{Event, after, is_pending, push_answer}
use Rattle.board_names.specs.declared.errors.event.ListenerWaitError.{ListenerWaitError}
use Rattle.board_event_core.specs.EventTable.{EventTable, changed, event_at, with_event}
use Rattle.board_event_core.specs.IdSets.{IsLeast, IsListOf}
use Rattle.board_event.specs.Ends.{End}

-- the event under this number stands, and is of this kind and, if a set, has this greatest id
pub record IsEventAt (k : EventKind) (max n : ℕ) (t : EventTable) (e : Event) : Type 0 where
  pub stands : event_at t n ≡ Some e
  pub of_kind : e.kind ≡ k
  pub greatest : k ≡ kind.Bits → e.max ≡ max

-- what holds of that event, where it stands
abbrev pub OnEventAt : EventKind → ℕ → ℕ → EventTable → (Event → Type 0) → Type 0
OnEventAt k max n t P = (e : Event) → IsEventAt k max n t e → P e

-- what holds of an end's event, where it stands
abbrev pub OnEvent : EventKind → End → EventTable → (Event → Type 0) → Type 0
OnEvent k end t P = OnEventAt k end.max end.event t P

-- that event, where it stands, is changed, and the rest of the table stays
abbrev pub ChangesAt : EventKind → ℕ → ℕ → EventTable → EventTable → (Event → Event) → Type 0
ChangesAt k max n old new f = OnEventAt k max n old (λ e. new ≡ with_event old n (f e))

-- the event with these ids, and this many signals
abbrev pub with_ids : Ids → List ℕ → ℕ → Event → Event
with_ids pending queue signals e = record e { pending = pending; queue = queue; signals = signals }

-- all but the ids and the signals of the event under this number is as it was
abbrev pub KeepsRestAt : ℕ → EventTable → EventTable → Type 0
KeepsRestAt n old new = (pending : Ids) × (queue : List ℕ) × (signals : ℕ) × (new ≡ changed old n (with_ids pending queue signals))

-- the same of an end's event
abbrev pub Changes : EventKind → End → EventTable → EventTable → (Event → Event) → Type 0
Changes k end old new f = ChangesAt k end.max end.event old new f

-- ---- events of a kind, whatever their greatest id is

-- the event under this number stands, and is of this kind
pub record StandsAs (k : EventKind) (n : ℕ) (t : EventTable) (e : Event) : Type 0 where
  pub stands : event_at t n ≡ Some e
  pub of_kind : e.kind ≡ k

-- what holds of that event, where it stands
abbrev pub OnKindAt : EventKind → ℕ → EventTable → (Event → Type 0) → Type 0
OnKindAt k n t P = (e : Event) → StandsAs k n t e → P e

-- that event, where it stands, is left so, and all others as they were
abbrev pub LeavesAt : EventKind → ℕ → EventTable → EventTable → (Event → Event) → Type 0
LeavesAt k n old new f = OnKindAt k n old (λ e. new ≡ with_event old n (f e))

-- what holds of an end's event, where it stands and is of the end's kind
abbrev pub OnKind : EventKind → End → EventTable → (Event → Type 0) → Type 0
OnKind k end t P = OnKindAt k end.event t P

-- that event is left so, and all others as they were
abbrev pub Leaves : EventKind → End → EventTable → EventTable → (Event → Event) → Type 0
Leaves k end old new f = LeavesAt k end.event old new f

-- the event with the ids of so many first words alone, where it is a set
abbrev pub first_words : ℕ → Event → Event
first_words words e = record e { pending = set.retain e.pending (λ i. nat_lt i (64 * words)) }

-- an event as far as a wait by an end up to `max` reaches: of a set, the words of the ids up to that one. Where this is the
-- set's greatest, that is the whole event
abbrev pub within : ℕ → Event → Event
within max e = first_words (max / 64 + 1) e

-- ---- a notify

-- what a push answers, as a notify tells it
abbrev pub push_told : EventAnswer → Result (Unit {0}) NotifierNotifyError
push_told answer.Done = Ok tt
push_told answer.Full = Err error.FailedToDeliverSignal
push_told _ = Err error.Disconnected

-- what a notify of an id answers, by an end up to `max`: of a set, the listener is looked for first, then the id is held
-- against the end's greatest, and then against the set's, which is the same where the end is the set's own
abbrev pub notify_answer : EventKind → ℕ → ℕ → Event → Result (Unit {0}) NotifierNotifyError
notify_answer kind.Bits max id e =
    if not e.held then Err error.Disconnected
    else (if nat_lt max id then Err error.TriggerIdOutOfBounds
    else (if nat_lt e.max id then Err error.Disconnected else Ok tt))
notify_answer kind.Queue max id e = push_told (push_answer e)

-- one signal more, unless as many as can be counted are there
abbrev pub posted : Event → Event
posted e = if nat_lt e.signals (2 ^ 64 - 1) then record e { signals = e.signals + 1 } else e

-- the event after a notify of an id: where it was not refused, the id waits, and a signal more
abbrev pub notified : EventKind → ℕ → ℕ → Event → Event
notified kind.Bits max id e = if not e.held || (nat_lt max id || nat_lt e.max id) then e else posted (after e (access.Set id))
notified kind.Queue max id e = after e (access.Push id)

-- a notify answers so, where an event of the end's kind stands
abbrev pub AnswersNotify : EventKind → End → EventTable → ℕ → Result (Unit {0}) NotifierNotifyError → Type 0
AnswersNotify k end t id result = OnKind k end t (λ e. result ≡ notify_answer k end.max id e)

-- and leaves that event so, and all others as they were
abbrev pub Notifies : EventKind → End → EventTable → EventTable → ℕ → Type 0
Notifies k end old new id = Leaves k end old new (notified k end.max id)

-- ---- a wait for one

-- no id waits
abbrev pub NoneWaits : Event → Type 0
NoneWaits e = (id : ℕ) → is_pending e id ≡ false

-- the id is the next: the least of a set, the oldest of a queue
abbrev pub IsNext : EventKind → Event → ℕ → Type 0
IsNext kind.Bits e id = IsLeast e.pending id
IsNext kind.Queue e id = slice_get e.queue 0 ≡ Some id

-- the event after a wait for one: it is without the id that was taken, and a set without signals
abbrev pub one_taken : EventKind → Event → Option ℕ → Event
one_taken kind.Bits e (Some id) = record e { pending = set.remove e.pending id; signals = 0 }
one_taken kind.Bits e None = record e { signals = 0 }
one_taken kind.Queue e one = record e { queue = drop 1 e.queue }

-- what a wait for one that is never refused has taken
abbrev pub one_of : Result (Option ℕ) ListenerWaitError → Option ℕ
one_of (Ok one) = one
one_of (Err why) = None

-- the event after it
abbrev pub after_one : EventKind → Result (Option ℕ) ListenerWaitError → Event → Event
after_one k result e = one_taken k e (one_of result)

-- what it gives is the next id
abbrev pub GivesNext : EventKind → Result (Option ℕ) ListenerWaitError → Event → Type 0
GivesNext k result e = IfSome (one_of result) (IsNext k e)

-- it gives none exactly where none waits
abbrev pub GivesNone : Result (Option ℕ) ListenerWaitError → Event → Type 0
GivesNone result e = (result ≡ Ok None) ↔ NoneWaits e

-- ---- a wait for all

-- the ids that wait, in the order in which they are taken: a set's ascending, a queue's from the oldest on
abbrev pub AreWaiting : EventKind → Event → List ℕ → Type 0
AreWaiting kind.Bits e ids = IsListOf ids e.pending
AreWaiting kind.Queue e ids = ids ≡ e.queue

-- a callback is called on these ids, one after another, where `step` tells a call of it
abbrev pub CallsOn : {F : Type 0} → (F → ℕ → Unit {0} → F → Type 0) → F → List ℕ → F → Type 0
CallsOn step callback ids last = FoldsTo (λ p id q. step p id tt q) callback ids last

-- it is called on each id that waits, in this order, and on no other: so it came to be `last`
abbrev pub CallsOnAll : {F : Type 0} → (F → ℕ → Unit {0} → F → Type 0) → F → F → EventKind → Event → Type 0
CallsOnAll step callback last k e = (ids : List ℕ) × AreWaiting k e ids × CallsOn step callback ids last

-- it is called on each id that waits, in this order
abbrev pub IsCalledOnAll : {F : Type 0} → (F → ℕ → Unit {0} → F → Type 0) → F → EventKind → Event → Type 0
IsCalledOnAll {F} step callback k e = (ids : List ℕ) × AreWaiting k e ids × (last : F) × CallsOn step callback ids last

-- so it is called over an end's event, where that stands
abbrev pub HandsOver : {F : Type 0} → (F → ℕ → Unit {0} → F → Type 0) → F → EventKind → End → EventTable → Type 0
HandsOver step callback k end t = OnEvent k end t (IsCalledOnAll step callback k)

-- the same of the ids that the end reaches, whatever the set's greatest id is
abbrev pub HandsOverReached : {F : Type 0} → (F → ℕ → Unit {0} → F → Type 0) → F → EventKind → End → EventTable → Type 0
HandsOverReached step callback k end t = OnKind k end t (λ e. IsCalledOnAll step callback k (within end.max e))

-- and so a callback that is lent is called over the event under a number
abbrev pub CallsOnReachedAt : {F : Type 0} → (F → ℕ → Unit {0} → F → Type 0) → F → F → EventKind → ℕ → ℕ → EventTable → Type 0
CallsOnReachedAt step callback last k max n t = OnKindAt k n t (λ e. CallsOnAll step callback last k (within max e))

-- and over an end's event
abbrev pub CallsOnReached : {F : Type 0} → (F → ℕ → Unit {0} → F → Type 0) → F → F → EventKind → End → EventTable → Type 0
CallsOnReached step callback last k end t = CallsOnReachedAt step callback last k end.max end.event t

-- the event after a wait for all
abbrev pub all_taken : EventKind → Event → Event
all_taken kind.Bits e = record e { pending = set.empty; signals = 0 }
all_taken kind.Queue e = record e { queue = [] }

-- the event after a wait for all on so many first words, where it is a set
abbrev pub words_taken : EventKind → ℕ → Event → Event
words_taken kind.Bits words e = record e { pending = set.retain e.pending (λ i. not (nat_lt i (64 * words))); signals = 0 }
words_taken kind.Queue words e = record e { queue = [] }

-- the event after a wait for all by an end up to `max`: the ids past its words stay
abbrev pub reached_taken : EventKind → ℕ → Event → Event
reached_taken k max e = words_taken k (max / 64 + 1) e
