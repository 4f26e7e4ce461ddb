-- What a call on an event leaves of its ids, and of those who hold it.
use Rattle.std.specs.Prelude.{◌≡◌, ◌≤◌, ◌<◌, ◌+◌, ◌-◌, ◌^◌, ℕ, Bool, true, false, not, List, [], ◌∷◌, ◌++◌, if◌then◌else◌, ◌||◌, nat_lt, length, drop, refl}
use Rattle.std.proofs.Common.{arith, inl, inr, length-append, length-drop}
use Rattle.std.specs.FinSet as set
use Rattle.board_event_model.specs.declared.kind.EventKind.{EventKind}
use Rattle.board_event_model.specs.declared.kind.EventKind.TheVariants as kind
use Rattle.board_event_model.specs.declared.access.EventAccess.{EventAccess}
use Rattle.board_event_model.specs.declared.access.EventAccess.TheVariants as access
use Rattle.board_event_model.specs.Ids.{Ids, has}
use Rattle.board_event_model.specs.EventMemory.{CanPerform, Event, after, new_event, with_notifier, without_listener, without_notifier}
use Rattle.board_event_model.proofs.QuietLemmas.{ltb_true}
use Rattle.board_event_model.proofs.SetLemmas.{has_empty, has_inserted, has_removed, has_retained}
use Rattle.board_event_core.specs.EventTable.{IsAttended, IsEvent, with_gone}

-- a kind is one of the two
not_both : (k : EventKind) → k ≡ kind.Bits → k ≡ kind.Queue → ⊥
not_both k bits queue = cc (bits, queue)

-- an id up to the greatest keeps all up to it
set_low : (ids : Ids) (id max : ℕ) → id ≤ max → ((i : ℕ) → has ids i ≡ true → i ≤ max) → (i : ℕ) → has (set.insert ids id) i ≡ true → i ≤ max
set_low ids id max low before i h =
    elim (has_inserted ids id i h) [
      | inl same ↦ (let is = same in omega arith)
      | inr old ↦ before i old
    ]

-- where there is room for one more, 512 are there at most
pushed_few : (queue : List ℕ) (id : ℕ) → nat_lt (length queue) 512 ≡ true → length (queue ++ id ∷ []) ≤ 512
pushed_few queue id room = let low = ltb_true (length queue) 512 room in omega (arith, length-append queue (id ∷ []))

-- a pop leaves no more
popped_few : (queue : List ℕ) → length queue ≤ 512 → length (drop 1 queue) ≤ 512
popped_few queue few = omega (arith, length-drop 1 queue)

-- of two, whichever it is
IsEvent-if : (b : Bool) (x y : Event) → (b ≡ true → IsEvent x) → (b ≡ false → IsEvent y) → IsEvent (if b then x else y)
IsEvent-if true x y first second = first refl
IsEvent-if false x y first second = second refl

-- an event that can take an access
pub IsEvent-after : (a : EventAccess) (e : Event) → CanPerform e a → IsEvent e → IsEvent (after e a)
IsEvent-after access.Listener e can sound = sound
IsEvent-after (access.Set id) e can sound = record {
  sized = sound.sized;
  low = set_low e.pending id e.max can.inside sound.low;
  few = sound.few;
  set_alone = sound.set_alone;
  queue_alone = λ is. absurd (not_both e.kind can.kind is);
}
IsEvent-after access.Post e can sound = record { sized = sound.sized; low = sound.low; few = sound.few; set_alone = sound.set_alone; queue_alone = sound.queue_alone }
IsEvent-after (access.Push id) e can sound =
    IsEvent-if (not e.held || e.gone) e (if nat_lt (length e.queue) 512 then record e { queue = e.queue ++ id ∷ [] } else e) (λ _. sound)
    (λ _. IsEvent-if (nat_lt (length e.queue) 512) (record e { queue = e.queue ++ id ∷ [] }) e (λ room. record {
      sized = sound.sized;
      low = sound.low;
      few = pushed_few e.queue id room;
      set_alone = λ is. absurd (not_both e.kind is can.kind);
      queue_alone = sound.queue_alone;
    })
    (λ _. sound))
IsEvent-after access.Signal e can sound = record { sized = sound.sized; low = sound.low; few = sound.few; set_alone = sound.set_alone; queue_alone = sound.queue_alone }
IsEvent-after (access.Scan word) e can sound = sound
IsEvent-after (access.Clear id) e can sound = record {
  sized = sound.sized;
  low = λ i h. sound.low i (has_removed e.pending id i h).1;
  few = sound.few;
  set_alone = sound.set_alone;
  queue_alone = λ is. absurd (not_both e.kind can.kind is);
}
IsEvent-after (access.Swap word) e can sound = record {
  sized = sound.sized;
  low = λ i h. sound.low i (has_retained e.pending _ i h).0;
  few = sound.few;
  set_alone = sound.set_alone;
  queue_alone = λ is. absurd (not_both e.kind can.kind is);
}
IsEvent-after access.Pop e can sound = record {
  sized = sound.sized;
  low = sound.low;
  few = popped_few e.queue sound.few;
  set_alone = λ is. absurd (not_both e.kind is can.kind);
  queue_alone = sound.queue_alone;
}

-- a new event has no ids
pub IsEvent-new_event : (k : EventKind) (name : List ℕ) (max : ℕ) → max < 2 ^ 64 → IsEvent (new_event k name max)
IsEvent-new_event k name max sized = record {
  sized = sized;
  low = λ i h. absurd (has_empty i h);
  few = omega arith;
  set_alone = λ _. refl;
  queue_alone = λ _. refl;
}

-- who holds it is nothing to its ids
pub IsEvent-with_gone : (e : Event) → IsEvent e → IsEvent (with_gone e)
IsEvent-with_gone e sound = record { sized = sound.sized; low = sound.low; few = sound.few; set_alone = sound.set_alone; queue_alone = sound.queue_alone }

pub IsEvent-with_notifier : (e : Event) → IsEvent e → IsEvent (with_notifier e)
IsEvent-with_notifier e sound = record { sized = sound.sized; low = sound.low; few = sound.few; set_alone = sound.set_alone; queue_alone = sound.queue_alone }

pub IsEvent-without_notifier : (e : Event) → IsEvent e → IsEvent (without_notifier e)
IsEvent-without_notifier e sound = record { sized = sound.sized; low = sound.low; few = sound.few; set_alone = sound.set_alone; queue_alone = sound.queue_alone }

pub IsEvent-without_listener : (e : Event) → IsEvent e → IsEvent (without_listener e)
IsEvent-without_listener e sound = record { sized = sound.sized; low = sound.low; few = sound.few; set_alone = sound.set_alone; queue_alone = sound.queue_alone }

-- ---- who holds an event

-- of two, whichever it is
IsAttended-if : (b : Bool) (x y : Event) → IsAttended x → IsAttended y → IsAttended (if b then x else y)
IsAttended-if true x y first second = first
IsAttended-if false x y first second = second

-- an access lets nobody go
pub IsAttended-after : (a : EventAccess) (e : Event) → IsAttended e → IsAttended (after e a)
IsAttended-after access.Listener e held = held
IsAttended-after (access.Set id) e held = record { holder = held.holder; counted = held.counted }
IsAttended-after access.Post e held = record { holder = held.holder; counted = held.counted }
IsAttended-after (access.Push id) e held = IsAttended-if (not e.held || e.gone) e (if nat_lt (length e.queue) 512 then record e { queue = e.queue ++ id ∷ [] } else e) held
    (IsAttended-if (nat_lt (length e.queue) 512) (record e { queue = e.queue ++ id ∷ [] }) e (record { holder = held.holder; counted = held.counted }) held)
IsAttended-after access.Signal e held = record { holder = held.holder; counted = held.counted }
IsAttended-after (access.Scan word) e held = held
IsAttended-after (access.Clear id) e held = record { holder = held.holder; counted = held.counted }
IsAttended-after (access.Swap word) e held = record { holder = held.holder; counted = held.counted }
IsAttended-after access.Pop e held = record { holder = held.holder; counted = held.counted }

-- a new event has its listener
pub IsAttended-new_event : (k : EventKind) (name : List ℕ) (max : ℕ) → IsAttended (new_event k name max)
IsAttended-new_event k name max = record { holder = refl; counted = omega arith }

-- a listener that counts as gone was not released
pub IsAttended-with_gone : (e : Event) → IsAttended e → IsAttended (with_gone e)
IsAttended-with_gone e held = record { holder = held.holder; counted = held.counted }

-- a notifier more holds it
holder_more : (held : Bool) (n : ℕ) → held || nat_lt 0 (n + 1) ≡ true
holder_more true n = refl
holder_more false n = grind arith

-- where one more can be counted
pub IsAttended-with_notifier : (e : Event) → e.notifiers < 2 ^ 64 - 2 → IsAttended (with_notifier e)
IsAttended-with_notifier e room = record { holder = holder_more e.held e.notifiers; counted = omega (arith, room) }

-- a notifier fewer can be counted
pub counted-without_notifier : (e : Event) → IsAttended e → (without_notifier e).notifiers ≤ 2 ^ 64 - 2
counted-without_notifier e held = let counted = held.counted in omega (arith, counted)

-- and as many
pub counted-without_listener : (e : Event) → IsAttended e → (without_listener e).notifiers ≤ 2 ^ 64 - 2
counted-without_listener e held = held.counted
