-- How the memory of an event is held. No clause of a public call cites it.
use Rattle.std.specs.Prelude.{◌≡◌, ℕ, Bool, if◌then◌else◌, List, [], refl}
use Rattle.std.specs.Coded.{Coded, code_by, coded×, coded_ℕ, coded_bool, coded_list}
use Rattle.std.specs.FinSet as set
use Rattle.board_event_model.specs.declared.kind.EventKind.{EventKind}
use Rattle.board_event_model.specs.declared.kind.EventKind.TheVariants as kind
use Rattle.board_event_model.specs.Ids.{Ids}
use Rattle.board_event_model.specs.EventMemory.{Event, is_bits}
use Rattle.board_event_core.specs.declared.event_memory.Pending.{Pending}
use Rattle.board_event_core.specs.declared.event_memory.Pending.TheVariants.{Bits, Queue}

-- a kind is stored as a truth
abbrev pub kind_of_truth : Bool → EventKind
kind_of_truth b = if b then kind.Bits else kind.Queue

-- and read back
pub kind_back : (k : EventKind) → kind_of_truth (is_bits k) ≡ k
kind_back kind.Bits = refl
kind_back kind.Queue = refl

-- the code of a kind
abbrev pub kind_code : Coded EventKind
kind_code = code_by Bool coded_bool is_bits kind_of_truth kind_back

-- the code of an event
abbrev pub event_code : Coded Event
event_code = code_by (EventKind × (List ℕ × (ℕ × (Ids × (List ℕ × (ℕ × (Bool × (Bool × ℕ))))))))
    (coded× kind_code (coded× (coded_list coded_ℕ) (coded× coded_ℕ (coded× (set.code coded_ℕ) (coded× (coded_list coded_ℕ) (coded× coded_ℕ (coded× coded_bool (coded× coded_bool coded_ℕ))))))))
    (λ e. (e.kind, (e.name, (e.max, (e.pending, (e.queue, (e.signals, (e.held, (e.gone, e.notifiers)))))))))
    (λ p. record { kind = p.0; name = p.1.0; max = p.1.1.0; pending = p.1.1.1.0; queue = p.1.1.1.1.0; signals = p.1.1.1.1.1.0; held = p.1.1.1.1.1.1.0; gone = p.1.1.1.1.1.1.1.0; notifiers = p.1.1.1.1.1.1.1.1 })
    (λ _. refl)

-- the kind of an event whose ids are held so
abbrev pub kind_in : Pending → EventKind
kind_in (Bits s) = kind.Bits
kind_in (Queue q) = kind.Queue

-- the ids of a set
abbrev pub ids_in : Pending → Ids
ids_in (Bits s) = s.ids
ids_in (Queue q) = set.empty

-- the ids of a queue
abbrev pub queue_in : Pending → List ℕ
queue_in (Bits s) = []
queue_in (Queue q) = q.items

-- a set goes up to the event's greatest id, and a queue has room for 512
abbrev pub IsPendingOf : ℕ → Pending → Type 0
IsPendingOf max (Bits s) = s.max ≡ max
IsPendingOf max (Queue q) = q.capacity ≡ 512
