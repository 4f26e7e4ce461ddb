-- How a notifier is opened.
use Rattle.std.specs.Prelude.{◌≡◌, ℕ, ◌-◌, ◌^◌, Bool, true, false, nat_lt, Option, Some, None, Result, Ok, IsSome, IsSomeAnd, refl}
use Rattle.std.proofs.Common.{sym, ◌∙◌}
use Rattle.board_names.specs.declared.errors.event.NotifierCreateError.{NotifierCreateError}
use Rattle.board_event_model.specs.declared.kind.EventKind.{EventKind}
use Rattle.board_event_model.specs.declared.kind.EventKind.TheVariants as kind
use Rattle.board_event_model.specs.EventMemory.{Event, with_notifier}
use Rattle.board_event_core.specs.EventTable.{EventTable, IsNotifierAnswer, changed, event_at, notifier_of}
use Rattle.board_names.specs.Concept.{Named, Placed, placed}
use Rattle.board_event.specs.Ends.{End, IsNotifierOf, greatest_of}
use Rattle.board_event.proofs.TableLemmas.{Became-first, Became-next}

-- a number that was answered is the event's
notifier_number : (m n : ℕ) (e : Event) (r : Result ℕ NotifierCreateError) → r ≡ Ok n → r ≡ notifier_of m e → m ≡ n
notifier_number m n e r was is = by e.held (nat_lt e.notifiers (2 ^ 64 - 2)) refl refl
  where
    by : (a b : Bool) → e.held ≡ a → nat_lt e.notifiers (2 ^ 64 - 2) ≡ b → m ≡ n
    by false b h f = absurd (let g = (rw h at is) in cc (g, was))
    by true true h f = (let g = (rw (h, f) at is) in cc (g, was))
    by true false h f = absurd (let g = (rw (h, f) at is) in cc (g, was))

-- and the event stands
pub opened_stands : (t : EventTable) (r : Result ℕ NotifierCreateError) (o : Option ℕ) (n : ℕ) → IsNotifierAnswer t r o → r ≡ Ok n → IsSome (event_at t n)
opened_stands t r None n is was = absurd (cc (is, was))
opened_stands t r (Some m) n is was = by (event_at t m) refl is
  where
    by : (o : Option Event) → event_at t m ≡ o → IsSomeAnd o (λ e. r ≡ notifier_of m e) → IsSome (event_at t n)
    by None h none = absurd none
    by (Some e) h answer = let same = notifier_number m n e r was answer in rw (sym same) (rw h refl)

-- also after it has a notifier more
pub stands_after : (t u : EventTable) (n : ℕ) → IsSome (event_at t n) → u ≡ changed t n with_notifier → IsSome (event_at u n)
stands_after t u n some is = by (event_at t n) refl some
  where
    by : (o : Option Event) → event_at t n ≡ o → IsSome o → IsSome (event_at u n)
    by None h none = absurd (cc none)
    by (Some e) h found = rw ((Became-next t t u n e with_notifier (Became-first t n e h) is).stands) refl

-- and its greatest id is the same
pub greatest_before : (t u : EventTable) (n m : ℕ) (k : EventKind) → IsSome (event_at t n) → u ≡ changed t n with_notifier → IsSomeAnd (event_at u n) (λ e. m ≡ greatest_of k e) → IsSomeAnd (event_at t n) (λ e. m ≡ greatest_of k e)
greatest_before t u n m k some is holds = by (event_at t n) refl some
  where
    same : (j : EventKind) (e : Event) → greatest_of j (with_notifier e) ≡ greatest_of j e
    same kind.Bits e = refl
    same kind.Queue e = refl

    by : (o : Option Event) → event_at t n ≡ o → IsSome o → IsSomeAnd o (λ e. m ≡ greatest_of k e)
    by None h none = absurd (cc none)
    by (Some e) h found =
        let there : event_at u n ≡ Some (with_notifier e) = (Became-next t t u n e with_notifier (Became-first t n e h) is).stands in
        let max : m ≡ greatest_of k (with_notifier e) = (rw there at holds) in
        max ∙ same k e

-- so the notifier is that of its event
pub is_notifier : (k : EventKind) (named : Named) (s t : EventTable) (end : End) (place : Placed) (n m : ℕ) → end ≡ record { place = place; event = n; max = m } → place ≡ placed named → s ≡ t →
    IsSomeAnd (event_at s n) (λ e. m ≡ greatest_of k e) → IsNotifierOf k named t end
is_notifier k named s t end place n m is at same holds = rw is (record { place = at; max = (rw (← same) holds) })
