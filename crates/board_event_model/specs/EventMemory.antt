-- The memory of one event: the answer that an access has, and what stands after it.
use Rattle.std.specs.Prelude.{◌≡◌, ℕ, ◌+◌, ◌-◌, ◌*◌, ◌/◌, ◌<◌, ◌≤◌, ◌^◌, Bool, true, false, not, ◌||◌, ◌==◌, nat_lt, if◌then◌else◌, List, [], ◌∷◌, ◌++◌, length, drop, ⊤}
use Rattle.std.specs.List.{list_any}
use Rattle.std.specs.FinSet as set
use Rattle.board_event_model.specs.declared.kind.EventKind.{EventKind}
use Rattle.board_event_model.specs.declared.kind.EventKind.TheVariants as kind
use Rattle.board_event_model.specs.declared.access.EventAccess.{EventAccess}
use Rattle.board_event_model.specs.declared.access.EventAccess.TheVariants as access
use Rattle.board_event_model.specs.declared.access.EventAnswer.{EventAnswer}
use Rattle.board_event_model.specs.declared.access.EventAnswer.TheVariants as answer
use Rattle.board_event_model.specs.Ids.{Ids, has, IsWord, in_word, ids_where}

-- an event. The pending ids of a bit set are in `pending`, those of a queue in `queue`, oldest first.
-- `held`: its listener was not released. `gone`: its listener's party was abandoned before that
pub record Event : Type 0 where
  pub kind : EventKind
  pub name : List ℕ
  pub max : ℕ
  pub pending : Ids
  pub queue : List ℕ
  pub signals : ℕ
  pub held : Bool
  pub gone : Bool
  pub notifiers : ℕ

-- with one notifier more
abbrev pub with_notifier : Event → Event
with_notifier e = record e { notifiers = e.notifiers + 1 }

-- with one fewer
abbrev pub without_notifier : Event → Event
without_notifier e = record e { notifiers = e.notifiers - 1 }

-- its listener was released
abbrev pub without_listener : Event → Event
without_listener e = record e { held = false }

-- the event that a listen makes
abbrev pub new_event : EventKind → List ℕ → ℕ → Event
new_event k name max = record { kind = k; name = name; max = max; pending = set.empty; queue = []; signals = 0; held = true; gone = false; notifiers = 0 }

-- whether a kind is that of bit sets
abbrev pub is_bits : EventKind → Bool
is_bits kind.Bits = true
is_bits kind.Queue = false

-- whether a listener or a notifier of it is held
abbrev pub has_holder : Event → Bool
has_holder e = e.held || nat_lt 0 e.notifiers

-- a bits name is held by the listener or a notifier, a queue name by the listener
abbrev pub holds_name : Event → Bool
holds_name e = elim e.kind [ kind.Bits ↦ has_holder e | kind.Queue ↦ e.held ]

-- whether an id is pending
abbrev pub is_pending : Event → ℕ → Bool
is_pending e id = has e.pending id || list_any (λ x. x == id) e.queue

-- ---- the answer that an access has

-- a look's answer
abbrev pub yes_or_no : Bool → EventAnswer
yes_or_no b = if b then answer.Yes else answer.No

-- a push adds its id, or finds the listener gone, or 512 ids
abbrev pub push_answer : Event → EventAnswer
push_answer e = if not e.held || e.gone then answer.Gone else if nat_lt (length e.queue) 512 then answer.Done else answer.Full

-- a pop gives the oldest id
abbrev pub pop_answer : List ℕ → EventAnswer
pop_answer [] = answer.Empty
pop_answer (x ∷ xs) = answer.Id x

-- the answer is word k of the ids
abbrev pub IsWordAnswer : Ids → ℕ → EventAnswer → Type 0
IsWordAnswer ids k a = (v : ℕ) × (a ≡ answer.Word v) × IsWord ids k v

-- the answer is the access's; only a pending id is cleared
abbrev pub IsRight : Event → EventAccess → EventAnswer → Type 0
IsRight e access.Listener a = a ≡ yes_or_no e.held
IsRight e (access.Set id) a = a ≡ answer.Done
IsRight e access.Post a = a ≡ answer.Done
IsRight e (access.Push id) a = a ≡ push_answer e
IsRight e access.Signal a = a ≡ yes_or_no (nat_lt 0 e.signals)
IsRight e (access.Scan k) a = IsWordAnswer e.pending k a
IsRight e (access.Clear id) a = (a ≡ answer.Done) × (has e.pending id ≡ true)
IsRight e (access.Swap k) a = IsWordAnswer e.pending k a
IsRight e access.Pop a = a ≡ pop_answer e.queue

-- ---- what stands after an access

-- the memory after an access
abbrev pub after : Event → EventAccess → Event
after e access.Listener = e
after e (access.Set id) = record e { pending = set.insert e.pending id }
after e access.Post = record e { signals = e.signals + 1 }
after e (access.Push id) = if not e.held || e.gone then e else if nat_lt (length e.queue) 512 then record e { queue = e.queue ++ id ∷ [] } else e
after e access.Signal = record e { signals = e.signals - 1 }
after e (access.Scan k) = e
after e (access.Clear id) = record e { pending = set.remove e.pending id }
after e (access.Swap k) = record e { pending = set.retain e.pending (λ i. not (in_word k i)) }
after e access.Pop = record e { queue = drop 1 e.queue }

-- the first of a list, as a list
abbrev pub oldest : List ℕ → List ℕ
oldest [] = []
oldest (x ∷ xs) = x ∷ []

-- the ids that an access takes out of the memory, ascending in a word
abbrev pub taken : Event → EventAccess → List ℕ
taken e access.Listener = []
taken e (access.Set id) = []
taken e access.Post = []
taken e (access.Push id) = []
taken e access.Signal = []
taken e (access.Scan k) = []
taken e (access.Clear id) = id ∷ []
taken e (access.Swap k) = ids_where (has e.pending) (64 * k) 64
taken e access.Pop = oldest e.queue

-- ---- when an access can be made

-- the kind of event that an access belongs to
abbrev pub kind_of_access : EventAccess → EventKind
kind_of_access access.Listener = kind.Bits
kind_of_access (access.Set id) = kind.Bits
kind_of_access access.Post = kind.Bits
kind_of_access (access.Push id) = kind.Queue
kind_of_access access.Signal = kind.Bits
kind_of_access (access.Scan k) = kind.Bits
kind_of_access (access.Clear id) = kind.Bits
kind_of_access (access.Swap k) = kind.Bits
kind_of_access access.Pop = kind.Queue

-- a set id is at most the greatest, a cleared one is pending, a scanned or swapped word is one of the set's, and a posted count is below 2^64 - 1
abbrev pub IsInside : Event → EventAccess → Type 0
IsInside e access.Listener = ⊤
IsInside e (access.Set id) = id ≤ e.max
IsInside e access.Post = e.signals < 2 ^ 64 - 1
IsInside e (access.Push id) = ⊤
IsInside e access.Signal = ⊤
IsInside e (access.Scan k) = k < e.max / 64 + 1
IsInside e (access.Clear id) = has e.pending id ≡ true
IsInside e (access.Swap k) = k < e.max / 64 + 1
IsInside e access.Pop = ⊤

-- an access that the event can take
pub record CanPerform (e : Event) (a : EventAccess) : Type 0 where
  pub kind : e.kind ≡ kind_of_access a
  pub inside : IsInside e a
