-- What a caller knows of a table that it is lent.
use Rattle.std.specs.Prelude.{◌≡◌, ◌<◌, ℕ, Bool, true, false, Option, Some, None, IfSome, IsSome, IsSomeAnd, ◌||◌, nat_lt, refl}
use Rattle.std.proofs.Common.{arith}
use Rattle.std.specs.Ordering.{nat_cmp}
use Rattle.std.specs.BTreeMap.{is_at}
use Rattle.std.proofs.lemmas.Cmp.{eq_by_cmp_equiv, nat_cmp_total}
use Rattle.std.proofs.lemmas.Map.{lookup-set_value}
use Rattle.std.proofs.lemmas.Map.Views.{IfSome-lookup_from_All}
use Rattle.board_event_model.specs.EventMemory.{Event}
use Rattle.board_event_core.specs.EventTable.{EventTable, IsAttended, IsEvent, IsKept, event_at, with_event}

-- what was put in the place of an event stands there
pub here-with_event : (t : EventTable) (n : ℕ) (e next : Event) → event_at t n ≡ Some e → event_at (with_event t n next) n ≡ Some next
here-with_event t n e next is = let found : IsSome (event_at t n) = rw is refl in
    let there = lookup-set_value (eq_by_cmp_equiv nat_cmp_total) (is_at (nat_cmp n)) ((eq_by_cmp_equiv nat_cmp_total).congr n) n next t.events found in
    rw there (rw ((eq_by_cmp_equiv nat_cmp_total).refl n) refl)

-- an event of a table is as it may be
pub sound_at : (t : EventTable) (n : ℕ) (e : Event) → event_at t n ≡ Some e → IsKept t → IsEvent e
sound_at t n e is table =
    let sound : IfSome (event_at t n) IsEvent = IfSome-lookup_from_All IsEvent (is_at (nat_cmp n)) t.events table.sound in
    (rw is at sound)

-- an event without a notifier has its listener
pub listens_alone : (t : EventTable) (n : ℕ) → IsKept t → IsSome (event_at t n) → ¬ IsSomeAnd (event_at t n) (λ e. 0 < e.notifiers) → IsSomeAnd (event_at t n) (λ e. e.held ≡ true)
listens_alone t n table some none = by (event_at t n) (table.attended n) some none
  where
    held_by : (held : Bool) (n : ℕ) → held || nat_lt 0 n ≡ true → ¬ (0 < n) → held ≡ true
    held_by true n holds none = refl
    held_by false n holds none = absurd (none (grind arith))

    by : (o : Option Event) → IfSome o IsAttended → IsSome o → ¬ IsSomeAnd o (λ e. 0 < e.notifiers) → IsSomeAnd o (λ e. e.held ≡ true)
    by None held found none = absurd (cc found)
    by (Some e) held found none = held_by e.held e.notifiers held.holder none

-- where nobody holds it, none stands
pub none_unheld : (t : EventTable) (n : ℕ) → IsKept t → ¬ IsSomeAnd (event_at t n) (λ e. e.held ≡ true) → ¬ IsSomeAnd (event_at t n) (λ e. 0 < e.notifiers) → event_at t n ≡ None
none_unheld t n table no_listener no_notifier = by (event_at t n) refl
  where
    by : (o : Option Event) → event_at t n ≡ o → o ≡ None
    by None h = refl
    by (Some e) h = absurd (no_listener (listens_alone t n table (rw h refl) no_notifier))
