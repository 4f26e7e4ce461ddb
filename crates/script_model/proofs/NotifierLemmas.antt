-- How many notifiers of an event parties have: one more, one fewer, and as many beside another thing.
use Rattle.std.proofs.Common.{◌≡◌, ℕ, zero, suc, ◌+◌, ◌-◌, ◌<◌, Bool, true, refl, sym, ◌∙◌, ap, inl, inr, arith, subst, Some, None, Option, List}
use Rattle.std.specs.Prelude.{◌&&◌, ◌||◌, IsSome, IsSomeAnd, nat_lt}
use Rattle.std.specs.Str.{bytes_eq}
use Rattle.std.proofs.lemmas.Bool.{false≢true, lt-ltb}
use Rattle.board_event_model.specs.declared.kind.EventKind.{EventKind}
use Rattle.board_event_model.specs.declared.kind.EventKind.TheVariants as kind
use Rattle.board_event_model.specs.EventMemory.{is_bits}
use Rattle.board_event_model.specs.EventSessions.{StandingEvent}
use Rattle.board_event_model.proofs.SetLemmas.{and_join, and_split, either, or_right}
use Rattle.board_event_model.proofs.SoundLemmas.{none_some, some_same}
use Rattle.board_model.specs.Things.{with_at}
use Rattle.script_model.specs.ScriptEvents.{EventThing, ScriptEvents, notifier}
use Rattle.script_model.specs.SoundEvents.{AreNotifiers, AreSoundEvents}
use Rattle.script_model.specs.LawsOfSound.{IsNotified}
use Rattle.script_model.proofs.EachLemmas.{event_in}
use Rattle.script_model.proofs.TurnLemmas.{at_cases, same_text, text_itself}

-- ---- tables of things

abbrev Things : Type 0
Things = List ℕ → List ℕ → Option EventThing

at_apart : (f : Things) (p m : List ℕ) (x : Option EventThing) (q l : List ℕ) → (q ≡ p → l ≡ m → ⊥) → with_at f p m x q l ≡ f q l
at_apart f p m x q l apart =
    elim (either (bytes_eq q p && bytes_eq l m)) [
      | inl same ↦ absurd (let both = and_split _ _ same in apart (same_text q p both.0) (same_text l m both.1))
      | inr other ↦ rw other refl
    ]

at_here : (f : Things) (p m : List ℕ) (x : Option EventThing) → with_at f p m x p m ≡ x
at_here f p m x = rw (text_itself p, text_itself m) refl

-- one place has nothing, or another thing, so it isn't that of this thing
place_apart : (f : Things) (p m q l : List ℕ) (x : Option EventThing) (t : EventThing) → (x ≡ Some t → ⊥) → f p m ≡ x → f q l ≡ Some t → q ≡ p → l ≡ m → ⊥
place_apart f p m q l x t other there is at name = other (sym there ∙ ap (λ (r : List ℕ). f r m) (sym at) ∙ ap (f q) (sym name) ∙ is)

-- the same notifiers of an event are in both
record HaveSame (n : ℕ) (f g : Things) : Type 0 where
  there : (p m : List ℕ) → f p m ≡ Some (notifier n) → g p m ≡ Some (notifier n)
  back : (p m : List ℕ) → g p m ≡ Some (notifier n) → f p m ≡ Some (notifier n)

kept_beside : (n : ℕ) (f g : Things) (p m : List ℕ) → ((q l : List ℕ) → f q l ≡ Some (notifier n) → g q l ≡ Some (notifier n)) → (q l : List ℕ) → with_at f p m None q l ≡ Some (notifier n) → with_at g p m None q l ≡ Some (notifier n)
kept_beside n f g p m kept q l h =
    elim (at_cases f p m None q l (Some (notifier n)) h) [
      | inl is ↦ absurd (none_some _ is.2)
      | inr is ↦ at_apart g p m None q l is.0 ∙ kept q l is.1
    ]

same_beside : (n : ℕ) (f g : Things) (p m : List ℕ) → HaveSame n f g → HaveSame n (with_at f p m None) (with_at g p m None)
same_beside n f g p m s = record { there = kept_beside n f g p m s.there; back = kept_beside n g f p m s.back }

-- so as many
as_many : (k n : ℕ) (f g : Things) → HaveSame n f g → AreNotifiers f n k → AreNotifiers g n k
as_many zero n f g s h = λ p m e. h p m (s.back p m e)
as_many (suc k) n f g s h = (h.0, h.1, s.there h.0 h.1 h.2, as_many k n (with_at f h.0 h.1 None) (with_at g h.0 h.1 None) (same_beside n f g h.0 h.1 s) h.3)

-- ---- a thing more

-- what is put in a free place is in it alone
put_same : (n : ℕ) (f : Things) (p m : List ℕ) (x : Option EventThing) → f p m ≡ None → (x ≡ Some (notifier n) → ⊥) → HaveSame n f (with_at f p m x)
put_same n f p m x free other = record {
  there = λ q l is. at_apart f p m x q l (place_apart f p m q l None (notifier n) (λ e. none_some _ e) free is) ∙ is;
  back = λ q l is. elim (at_cases f p m x q l (Some (notifier n)) is) [
    | inl here ↦ absurd (other here.2)
    | inr there ↦ there.1
  ];
}

-- a thing that is no notifier of this event
pub notifiers_beside : (k n : ℕ) (f : Things) (p m : List ℕ) (t : EventThing) → (t ≡ notifier n → ⊥) → f p m ≡ None → AreNotifiers f n k → AreNotifiers (with_at f p m (Some t)) n k
notifiers_beside k n f p m t other free h = as_many k n f (with_at f p m (Some t)) (put_same n f p m (Some t) free (λ e. other (some_same _ _ e))) h

-- one that is
pub notifiers_more : (k n : ℕ) (f : Things) (p m : List ℕ) → f p m ≡ None → AreNotifiers f n k → AreNotifiers (with_at f p m (Some (notifier n))) n (k + 1)
notifiers_more k n f p m free h =
    let g : Things = with_at f p m (Some (notifier n)) in
    let same : HaveSame n f (with_at g p m None) = record {
      there = λ q l is. (
          let apart : (q ≡ p → l ≡ m → ⊥) = place_apart f p m q l None (notifier n) (λ e. none_some _ e) free is in
          at_apart g p m None q l apart ∙ at_apart f p m (Some (notifier n)) q l apart ∙ is);
      back = λ q l is. elim (at_cases g p m None q l (Some (notifier n)) is) [
        | inl here ↦ absurd (none_some _ here.2)
        | inr there ↦ sym (at_apart f p m (Some (notifier n)) q l there.0) ∙ there.1
      ];
    } in
    let count : suc k ≡ k + 1 = omega arith in
    let all : AreNotifiers g n (suc k) = (p, m, at_here f p m (Some (notifier n)), as_many k n f (with_at g p m None) same h) in
    subst (AreNotifiers g n) count all

-- ---- a thing fewer

-- one that is no notifier of this event
pub notifiers_without : (k n : ℕ) (f : Things) (p m : List ℕ) (t : EventThing) → (t ≡ notifier n → ⊥) → f p m ≡ Some t → AreNotifiers f n k → AreNotifiers (with_at f p m None) n k
notifiers_without k n f p m t other holds h =
    let same : HaveSame n f (with_at f p m None) = record {
      there = λ q l is. at_apart f p m None q l (place_apart f p m q l (Some t) (notifier n) (λ e. other (some_same _ _ e)) holds is) ∙ is;
      back = λ q l is. elim (at_cases f p m None q l (Some (notifier n)) is) [
        | inl here ↦ absurd (none_some _ here.2)
        | inr there ↦ there.1
      ];
    } in
    as_many k n f (with_at f p m None) same h

-- two places without their things, in either order
without_both : (n : ℕ) (f : Things) (a b p m q l : List ℕ) → with_at (with_at f a b None) p m None q l ≡ Some (notifier n) → with_at (with_at f p m None) a b None q l ≡ Some (notifier n)
without_both n f a b p m q l h =
    elim (at_cases (with_at f a b None) p m None q l (Some (notifier n)) h) [
      | inl here ↦ absurd (none_some _ here.2)
      | inr out ↦ elim (at_cases f a b None q l (Some (notifier n)) out.1) [
        | inl here ↦ absurd (none_some _ here.2)
        | inr in_f ↦ at_apart (with_at f p m None) a b None q l in_f.0 ∙ at_apart f p m None q l out.0 ∙ in_f.1
      ]
    ]

-- the place of one of them is that of the one that goes
gone_here : (k n : ℕ) (f : Things) (p m a b : List ℕ) → (bytes_eq p a && bytes_eq m b) ≡ true → AreNotifiers (with_at f a b None) n k → AreNotifiers (with_at f p m None) n k
gone_here k n f p m a b same h =
    let both = and_split _ _ same in
    subst (λ (q : List ℕ). AreNotifiers (with_at f q m None) n k) (sym (same_text p a both.0)) (subst (λ (l : List ℕ). AreNotifiers (with_at f a l None) n k) (sym (same_text m b both.1)) h)

one_fewer : (k n : ℕ) (f : Things) (p m : List ℕ) → f p m ≡ Some (notifier n) → AreNotifiers f n (suc k) → AreNotifiers (with_at f p m None) n k
one_fewer zero n f p m is h =
    elim (either (bytes_eq p h.0 && bytes_eq m h.1)) [
      | inl same ↦ gone_here zero n f p m h.0 h.1 same h.3
      | inr apart ↦ absurd (h.3 p m (rw apart is))
    ]
one_fewer (suc k) n f p m is h =
    elim (either (bytes_eq p h.0 && bytes_eq m h.1)) [
      | inl same ↦ gone_here (suc k) n f p m h.0 h.1 same h.3
      | inr apart ↦ (
          let still : with_at f h.0 h.1 None p m ≡ Some (notifier n) = rw apart is in
          let rest : AreNotifiers (with_at (with_at f h.0 h.1 None) p m None) n k = one_fewer k n (with_at f h.0 h.1 None) p m still h.3 in
          let place : (h.0 ≡ p → h.1 ≡ m → ⊥) = λ e g. false≢true (sym apart ∙ and_join _ _ (ap (bytes_eq p) e ∙ text_itself p) (ap (bytes_eq m) g ∙ text_itself m)) in
          let swapped : HaveSame n (with_at (with_at f h.0 h.1 None) p m None) (with_at (with_at f p m None) h.0 h.1 None) = record {
            there = λ q l e. without_both n f h.0 h.1 p m q l e;
            back = λ q l e. without_both n f p m h.0 h.1 q l e;
          } in
          (h.0, h.1, at_apart f p m None h.0 h.1 place ∙ h.2, as_many k n (with_at (with_at f h.0 h.1 None) p m None) (with_at (with_at f p m None) h.0 h.1 None) swapped rest))
    ]

-- one that is
pub notifiers_fewer : (k n : ℕ) (f : Things) (p m : List ℕ) → f p m ≡ Some (notifier n) → AreNotifiers f n k → AreNotifiers (with_at f p m None) n (k - 1)
notifiers_fewer zero n f p m is h = absurd (h p m is)
notifiers_fewer (suc k) n f p m is h =
    let count : k ≡ suc k - 1 = omega arith in
    subst (AreNotifiers (with_at f p m None) n) count (one_fewer k n f p m is h)

-- ---- what the count says

has_one : (k n : ℕ) (f : Things) (p m : List ℕ) → f p m ≡ Some (notifier n) → AreNotifiers f n k → 0 < k
has_one zero n f p m is h = absurd (h p m is)
has_one (suc k) n f p m is h = omega arith

pub one_of : (k n : ℕ) (f : Things) → 0 < k → AreNotifiers f n k → (p : List ℕ) × (name : List ℕ) × (f p name ≡ Some (notifier n))
one_of zero n f some h = absurd (omega (arith, some))
one_of (suc k) n f some h = (h.0, h.1, h.2)

-- a bits name is held where a notifier is counted
held_by_count : (k : EventKind) (held : Bool) (c : ℕ) → 0 < c → is_bits k ≡ true → elim k [ kind.Bits ↦ held || nat_lt 0 c | kind.Queue ↦ held ] ≡ true
held_by_count kind.Bits held c some bits = or_right held _ (lt-ltb 0 c some)
held_by_count kind.Queue held c some bits = absurd (false≢true bits)

pub is_notified : (x : ScriptEvents) (c : ℕ) → AreSoundEvents x c → (p name : List ℕ) (n : ℕ) (o : Option StandingEvent) → x.session.stands n ≡ o → x.things p name ≡ Some (notifier n) → IsSomeAnd (event_in o) (IsNotified x n)
is_notified x c h p name n None stands is = absurd (false≢true (subst (λ (o : Option StandingEvent). IsSome o) stands (h.things p name (notifier n) is)))
is_notified x c h p name n (Some st) stands is =
    let some : 0 < st.event.notifiers = has_one st.event.notifiers n x.things p name is (h.notifiers n st stands) in
    record { counts = some; named = λ bits. h.holders n st stands (held_by_count st.event.kind st.event.held st.event.notifiers some bits) }
