-- The events of a checker's tables, and those of the definitions.
use Rattle.std.proofs.Common.{◌≡◌, ℕ, ◌+◌, ◌-◌, ◌<◌, ◌≤◌, ◌^◌, Bool, true, false, List, [], ◌∷◌, refl, sym, ap, subst, ◌∙◌, Option, Some, None, ◌⊎◌, inl, inr, arith}
use Rattle.std.specs.Prelude.{◌==◌, IsSome, IsSomeAnd}
use Rattle.std.proofs.lemmas.Bool.Decides.{Decides-eqb}
use Rattle.board_event_model.specs.declared.access.EventAccess.{EventAccess}
use Rattle.board_event_model.specs.declared.access.EventAnswer.{EventAnswer}
use Rattle.board_event_model.specs.EventMemory.{Event, with_notifier, without_listener, without_notifier}
use Rattle.board_event_model.specs.EventSessions.{EventLine, EventSession, PartyCall, StandingEvent, abandon_of, all_gone, begin_on, change_at, event_of, expire_of, listen, next_session, notifiers_of, release_of, session_of, step_of, stepped_on, took_step}
use Rattle.script_model.specs.ScriptEvents as events
use Rattle.script_model.specs.ScriptEvents.{ScriptEvents, let_go_from, notifier_more, notifier, listener}
use Rattle.script_model.specs.SoundEvents.{AreSoundEvents, IsFormedEvent, IsNamed}
use Rattle.script_event_tables.specs.declared.event_table.EventTable.{EventTable}
use Rattle.script_event_tables.specs.EventTables.{AreEvents, EventsThatStand, FitTogether, IsMade, names_settled, with_changed, with_released}

-- the events of the definitions that a table keeps
abbrev pub kept_of : ScriptEvents → EventsThatStand
kept_of x = record { stands = x.session.stands; count = x.session.count; names = x.names }

either : (b : Bool) → (b ≡ true) ⊎ (b ≡ false)
either true = inl refl
either false = inr refl

-- ---- no event has the number 0

none_changed : (stands : ℕ → Option StandingEvent) (n : ℕ) (f : Event → Event) → stands 0 ≡ None → change_at stands n f 0 ≡ None
none_changed stands n f h = rw (h, change_at) refl

none_stepped : (s : EventSession) (p : List ℕ) (a : EventAccess) (b : EventAnswer) (d : PartyCall) (o : Option Event) → s.stands 0 ≡ None → (took_step s p a b d o).stands 0 ≡ None
none_stepped s p a b d None h = h
none_stepped s p a b d (Some e) h = none_changed s.stands d.on _ h

none_next : (s : EventSession) (l : EventLine) → s.stands 0 ≡ None → (next_session s l).stands 0 ≡ None
none_next s (listen p k name max) h =
    elim (either (0 == s.count + 1)) [
      | inl same ↦ absurd (let e : 0 ≡ s.count + 1 = (Decides-eqb 0 (s.count + 1)).0 same in omega arith)
      | inr apart ↦ rw apart h
    ]
none_next s (begin_on p n c) h = h
none_next s (step_of p a b) h = by (s.doing p)
  where
    by : (o : Option PartyCall) → (stepped_on s p a b o).stands 0 ≡ None
    by None = h
    by (Some d) = none_stepped s p a b d (event_of s.stands d.on) h
none_next s (expire_of p) h = h
none_next s (abandon_of p) h = rw (h, all_gone) refl
none_next s (release_of n) h = none_changed s.stands n _ h
none_next s (notifiers_of n k) h = none_changed s.stands n _ h

none_first : (ls : List EventLine) → (session_of ls).stands 0 ≡ None
none_first [] = refl
none_first (l ∷ ls) = none_next (session_of ls) l (none_first ls)

-- ---- what stands

pub found_event : (stands : ℕ → Option StandingEvent) (n : ℕ) (st : StandingEvent) → stands n ≡ Some st → event_of stands n ≡ Some st.event
found_event stands n st h = rw (h, event_of) refl

-- the standing event of an event
pub record IsThere (stands : ℕ → Option StandingEvent) (n : ℕ) (e : Event) : Type 0 where
  pub st : StandingEvent
  pub is : stands n ≡ Some st
  pub event : st.event ≡ e

pub there_by : (stands : ℕ → Option StandingEvent) (n : ℕ) (e : Event) → event_of stands n ≡ Some e → IsThere stands n e
there_by stands n e h = by (stands n) refl h
  where
    by : (o : Option StandingEvent) → stands n ≡ o → (elim o as (λ x. Option Event) [ None ↦ None | Some st ↦ Some st.event ]) ≡ Some e → IsThere stands n e
    by None is h = absurd cc
    by (Some st) is h = record { st = st; is = is; event = (let k : st.event ≡ e = cc in k) }

pub some_standing : (o : Option StandingEvent) (P : StandingEvent → Type 0) → IsSomeAnd o P → (st : StandingEvent) × (o ≡ Some st)
some_standing None P h = absurd h
some_standing (Some st) P h = (st, refl)

some_event : (stands : ℕ → Option StandingEvent) (n : ℕ) → IsSome (stands n) → (st : StandingEvent) × (stands n ≡ Some st)
some_event stands n h = by (stands n) h
  where
    by : (o : Option StandingEvent) → IsSome o → (st : StandingEvent) × (o ≡ Some st)
    by None h = absurd cc
    by (Some st) h = (st, refl)

pub some_holds : (stands : ℕ → Option StandingEvent) (n : ℕ) (P : Event → Type 0) → IsSomeAnd (event_of stands n) P → (e : Event) × (event_of stands n ≡ Some e) × P e
some_holds stands n P h = by (event_of stands n) h
  where
    by : (o : Option Event) → IsSomeAnd o P → (e : Event) × (o ≡ Some e) × P e
    by None h = absurd h
    by (Some e) h = (e, refl, h)

pub holds_some : (o : Option Event) (P : Event → Type 0) (e : Event) → o ≡ Some e → P e → IsSomeAnd o P
holds_some o P e is h = subst (λ (x : Option Event). IsSomeAnd x P) (sym is) h

is_some_event : (o : Option Event) (P : Event → Type 0) → IsSomeAnd o P → IsSome o
is_some_event None P h = absurd h
is_some_event (Some e) P h = refl

module _ (x : ScriptEvents) (c : ℕ) (sound : AreSoundEvents x c) where
  pub none_at_first : x.session.stands 0 ≡ None
  none_at_first = ap (λ (s : EventSession). s.stands 0) sound.session.is ∙ none_first sound.session.lines

  pub fits : c < 2 ^ 63 → FitTogether (kept_of x)
  fits few = record {
    first = none_at_first;
    numbered = λ n e h. (let w = there_by x.session.stands n e h in sound.numbered n w.st w.is);
    named = λ k name n h. is_some_event (event_of x.session.stands n) (IsNamed k name) (sound.names k name n h);
    few = λ n e h. (
        let w = there_by x.session.stands n e h in
        let f : IsFormedEvent c w.st.event = sound.formed n w.st w.is in
        let same : w.st.event.notifiers ≡ e.notifiers = ap (λ (y : Event). y.notifiers) w.event in
        let low = f.notifiers in
        omega (arith, low, same, few));
  }

  -- an event that stands was made
  pub made_by : (t : EventTable) → AreEvents t (kept_of x) → (n : ℕ) (st : StandingEvent) → x.session.stands n ≡ Some st → IsMade t n
  made_by t are n st is =
      let last = sound.numbered n st is in
      let count = are.count in
      elim (either (n == 0)) [
        | inl zero ↦ absurd (let e : n ≡ 0 = (Decides-eqb n 0).0 zero in let k : x.session.stands n ≡ None = ap x.session.stands e ∙ none_at_first in cc)
        | inr other ↦ record {
          first = elim (either (n == 0)) [
            | inl zero ↦ absurd (let z : true ≡ false = sym zero ∙ other in cc)
            | inr more ↦ positive n (λ e. (let z : true ≡ false = sym ((Decides-eqb n 0).1 e) ∙ more in absurd cc))
          ];
          last = omega (arith, last, count);
        }
      ]
    where
      positive : (n : ℕ) → (n ≡ 0 → ⊥) → 1 ≤ n
      positive n h = omega (arith, h)

  pub thing_stands : (p name : List ℕ) (t : events.EventThing) → x.things p name ≡ Some t → (st : StandingEvent) × (x.session.stands (events.event_number t) ≡ Some st)
  thing_stands p name (listener n) h = some_standing (x.session.stands n) _ (sound.things p name (listener n) h)
  thing_stands p name (notifier n) h = some_event x.session.stands n (sound.things p name (notifier n) h)

-- ---- what goes

funext : {A B : Type 0} (f g : A → B) → ((x : A) → f x ≡ g x) → f ≡ g
funext f g h = λ i x. h x i

pub changed_event : (stands : ℕ → Option StandingEvent) (n : ℕ) (e : Event) (f : Event → Event) → event_of stands n ≡ Some e → event_of (change_at stands n f) n ≡ Some (f e)
changed_event stands n e f h =
    let w = there_by stands n e h in
    let same : (n == n) ≡ true = (Decides-eqb n n).1 refl in
    let there : change_at stands n f n ≡ Some (record w.st { event = f w.st.event }) = rw (w.is, change_at, same) refl in
    found_event (change_at stands n f) n (record w.st { event = f w.st.event }) there ∙ ap (λ (y : Event). Some (f y)) w.event

-- changes that come to the same at the event are one
change_alike : (stands : ℕ → Option StandingEvent) (n : ℕ) (e : Event) (f g : Event → Event) → event_of stands n ≡ Some e → f e ≡ g e → change_at stands n f ≡ change_at stands n g
change_alike stands n e f g h alike = funext (change_at stands n f) (change_at stands n g) (λ m. at m (stands m) refl)
  where
    w : IsThere stands n e
    w = there_by stands n e h

    at : (m : ℕ) (o : Option StandingEvent) → stands m ≡ o → change_at stands n f m ≡ change_at stands n g m
    at m None is = rw (is, change_at) refl
    at m (Some st) is =
        elim (either (m == n)) [
          | inl same ↦ (
              let k : m ≡ n = (Decides-eqb m n).0 same in
              let two : Some st ≡ Some w.st = sym is ∙ ap stands k ∙ w.is in
              let one : st ≡ w.st = cc in
              let ev : st.event ≡ e = ap (λ (y : StandingEvent). y.event) one ∙ w.event in
              rw (is, change_at, same) (ap (λ (y : Event). Some (record st { event = y })) (ap f ev ∙ alike ∙ ap g (sym ev))))
          | inr apart ↦ rw (is, change_at, apart) refl
        ]

module _ (new : EventTable) (x : ScriptEvents) (party name : List ℕ) (n : ℕ) (e : Event) (found : event_of x.session.stands n ≡ Some e) where
  settled : (f : Event → Event) → AreEvents new (with_released n f (kept_of x)) → AreEvents new (record { stands = change_at x.session.stands n f; count = x.session.count; names = names_settled x.names n (Some (f e)) })
  settled f are = subst (λ (o : Option Event). AreEvents new (record { stands = change_at x.session.stands n f; count = x.session.count; names = names_settled x.names n o })) (changed_event x.session.stands n e f found) are

  pub listener_went : AreEvents new (with_released n without_listener (kept_of x)) → AreEvents new (kept_of (let_go_from x party name (listener n) (Some e)))
  listener_went are = settled without_listener are

  pub notifier_went : AreEvents new (with_released n without_notifier (kept_of x)) → AreEvents new (kept_of (let_go_from x party name (notifier n) (Some e)))
  notifier_went are =
      subst (λ (stands : ℕ → Option StandingEvent). AreEvents new (record { stands = stands; count = x.session.count; names = names_settled x.names n (Some (without_notifier e)) }))
      (change_alike x.session.stands n e without_notifier (λ y. record y { notifiers = e.notifiers - 1 }) found refl) (settled without_notifier are)

  pub notifier_came : AreEvents new (with_changed n with_notifier (kept_of x)) → AreEvents new (kept_of (notifier_more x party name n e))
  notifier_came are =
      subst (λ (stands : ℕ → Option StandingEvent). AreEvents new (record { stands = stands; count = x.session.count; names = x.names }))
      (change_alike x.session.stands n e with_notifier (λ y. record y { notifiers = e.notifiers + 1 }) found refl) are
