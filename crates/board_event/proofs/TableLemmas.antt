-- A table of which one event is changed, step by step.
use Rattle.std.specs.Prelude.{◌≡◌, ℕ, Bool, true, false, cond, List, [], ◌∷◌, Some, IsSome, IsSomeAnd, refl}
use Rattle.std.proofs.Common.{ap, sym, ◌∙◌}
use Rattle.std.specs.Ordering.{nat_cmp}
use Rattle.std.specs.Map.{set_value}
use Rattle.std.specs.BTreeMap.{is_at}
use Rattle.std.proofs.lemmas.Cmp.{eq_by_cmp_equiv, nat_cmp_total}
use Rattle.std.proofs.lemmas.Map.{lookup-set_value}
use Rattle.std.proofs.lemmas.Map.Steps.{set_value_same}
use Rattle.board_event_model.specs.EventMemory.{Event}
use Rattle.board_event_core.specs.EventTable.{EventTable, changed, event_at, with_event}

-- what is written twice is written once
set_value-set_value : {K X : Type 0} (test : K → Bool) (es : List (K × X)) (v w : X) → set_value test (set_value test es v) w ≡ set_value test es w
set_value-set_value test [] v w = refl
set_value-set_value {K} {X} test (e ∷ es) v w = by (test e.0) refl (set_value-set_value test es v w)
  where
    by : (b : Bool) → test e.0 ≡ b → set_value test (set_value test es v) w ≡ set_value test es w →
        set_value test (cond b ((e.0, v) ∷ es) (e ∷ set_value test es v)) w ≡ cond b ((e.0, w) ∷ es) (e ∷ set_value test es w)
    by true h later = rw h refl
    by false h later = rw h (ap (λ l. e ∷ l) later)

-- an event put in its own place changes nothing
pub with_event-same : (t : EventTable) (n : ℕ) (e : Event) → event_at t n ≡ Some e → t ≡ with_event t n e
with_event-same t n e is = ap (λ (l : List (ℕ × Event)). record t { events = l }) (sym (set_value_same (is_at (nat_cmp n)) t.events e is))

-- what was put in the place of an event stands there
pub event_at-with_event : (t : EventTable) (n : ℕ) (e : Event) → IsSome (event_at t n) → event_at (with_event t n e) n ≡ Some e
event_at-with_event t n e some =
    lookup-set_value (eq_by_cmp_equiv nat_cmp_total) (is_at (nat_cmp n)) ((eq_by_cmp_equiv nat_cmp_total).congr n) n e t.events some
    ∙ ap (λ (b : Bool). cond b (Some e) (event_at t n)) ((eq_by_cmp_equiv nat_cmp_total).refl n)

-- one event is another than it was, and no other is
pub record Became (t u : EventTable) (n : ℕ) (now : Event) : Type 0 where
  pub table : u ≡ with_event t n now
  pub stands : event_at u n ≡ Some now

-- at first it is what it was
pub Became-first : (t : EventTable) (n : ℕ) (e : Event) → event_at t n ≡ Some e → Became t t n e
Became-first t n e is = record { table = with_event-same t n e is; stands = is }

-- and a change of it is one more
pub Became-next : (t u v : EventTable) (n : ℕ) (now : Event) (f : Event → Event) → Became t u n now → v ≡ changed u n f → Became t v n (f now)
Became-next t u v n now f was is = record {
  table = whole ∙ ap (λ (l : List (ℕ × Event)). record t { events = l }) (set_value-set_value (is_at (nat_cmp n)) t.events now (f now));
  stands = rw next (event_at-with_event u n (f now) (rw was.stands refl));
}
  where
    next : v ≡ with_event u n (f now)
    next = (rw (was.stands, changed) at is)

    whole : v ≡ with_event (with_event t n now) n (f now)
    whole = next ∙ ap (λ (w : EventTable). with_event w n (f now)) was.table

-- what holds of the event that stands
pub at_event : (t : EventTable) (n : ℕ) (e : Event) (P : Event → Type 0) → event_at t n ≡ Some e → IsSomeAnd (event_at t n) P → P e
at_event t n e P is holds = (rw is at holds)

-- and back
pub event_here : (t : EventTable) (n : ℕ) (e : Event) (P : Event → Type 0) → event_at t n ≡ Some e → P e → IsSomeAnd (event_at t n) P
event_here t n e P is holds = rw is holds
