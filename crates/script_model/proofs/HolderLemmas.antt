-- Listeners and notifiers that come and go keep the facts on events.
use Rattle.std.proofs.Common.{◌≡◌, ℕ, ◌+◌, ◌-◌, ◌<◌, ◌≤◌, Bool, true, false, eqb, refl, sym, ◌∙◌, ap, ◌⊎◌, inl, inr, arith, subst, Some, None, Option, List}
use Rattle.std.specs.Prelude.{if◌then◌else◌, ◌==◌, ◌&&◌, ◌||◌, IsSome, IsSomeAnd, nat_lt}
use Rattle.std.specs.Str.{bytes_eq}
use Rattle.std.proofs.lemmas.Bool.{false≢true, lt-ltb}
use Rattle.std.proofs.lemmas.Bool.Decides.{Decides-ltb}
use Rattle.board_event_model.specs.declared.kind.EventKind.{EventKind}
use Rattle.board_event_model.specs.declared.kind.EventKind.TheVariants as kind
use Rattle.board_event_model.specs.EventMemory.{Event, holds_name, new_event}
use Rattle.board_event_model.specs.EventSessions.{EventSession, StandingEvent, change_at, event_of, listen, next_session, notifiers_of, release_of}
use Rattle.board_event_model.proofs.QuietLemmas.{eqb_self, eqb_true}
use Rattle.board_event_model.proofs.SetLemmas.{and_split, either, is_false, or_right}
use Rattle.board_event_model.proofs.SoundLemmas.{none_some, some_same}
use Rattle.board_model.specs.Things.{with_at}
use Rattle.script_model.specs.ScriptEvents.{EventThing, ScriptEvents, listener, names_left, notifier, same_event_kind, with_listener, name_held, notifier_more, without_name}
use Rattle.script_model.specs.ScriptGrammar.{is_event_name}
use Rattle.script_model.specs.SoundEvents.{AreNotifiers, AreSoundEvents, IsEventThing, IsFormedEvent, IsListening, IsNamed, name_asked}
use Rattle.script_model.proofs.EachLemmas.{changed_holds, each, each_and, each_event, each_some, each_was, event_in, one_changed, same_event, same_formed}
use Rattle.script_model.proofs.NotifierLemmas.{notifiers_beside, notifiers_fewer, notifiers_more, notifiers_without}
use Rattle.script_model.proofs.TurnLemmas.{another, at_cases, at_other, held_call, if_cases, more_of, same_text, text_itself}

-- ---- numbers

and_some : (P : StandingEvent → Type 0) (o : Option StandingEvent) → IsSomeAnd o P → IsSome o
and_some P None h = absurd h
and_some P (Some st) h = refl

event_some : (P : Event → Type 0) (o : Option StandingEvent) → IsSomeAnd (event_in o) P → IsSome o
event_some P None h = absurd h
event_some P (Some st) h = refl

-- the next number stands for no event
not_next : (s : EventSession) → ((n : ℕ) (st : StandingEvent) → s.stands n ≡ Some st → n ≤ s.count) → (m : ℕ) (o : Option StandingEvent) → s.stands m ≡ o → IsSome o → eqb m (s.count + 1) ≡ false
not_next s low m None e h = absurd (false≢true h)
not_next s low m (Some st) e h = is_false _ (λ y. let a = eqb_true m (s.count + 1) y in let b = low m st e in omega arith)

-- ---- a new event

kind_is : (j k : EventKind) → same_event_kind j k ≡ true → j ≡ k
kind_is kind.Bits kind.Bits h = refl
kind_is kind.Bits kind.Queue h = absurd (false≢true h)
kind_is kind.Queue kind.Bits h = absurd (false≢true h)
kind_is kind.Queue kind.Queue h = refl

kind_itself : (k : EventKind) → same_event_kind k k ≡ true
kind_itself kind.Bits = refl
kind_itself kind.Queue = refl

new_held : (k : EventKind) (name : List ℕ) (max : ℕ) → holds_name (new_event k name max) ≡ true
new_held kind.Bits name max = refl
new_held kind.Queue name max = refl

abbrev with_next : EventSession → StandingEvent → ℕ → Option StandingEvent
with_next s new m = if m == s.count + 1 then Some new else s.stands m

next_here : (s : EventSession) (new : StandingEvent) → with_next s new (s.count + 1) ≡ Some new
next_here s new = rw (eqb_self (s.count + 1)) refl

-- what is known of an event is known of it beside a new one
next_there : (s : EventSession) (new : StandingEvent) → ((n : ℕ) (st : StandingEvent) → s.stands n ≡ Some st → n ≤ s.count) → (P : Option StandingEvent → Type 0) (m : ℕ) → IsSome (s.stands m) → P (s.stands m) → P (with_next s new m)
next_there s new low P m some h = rw (not_next s low m (s.stands m) refl some) h

thing_some : (x : ScriptEvents) (p : List ℕ) (k : ℕ) → IsEventThing x p (listener k) → IsSome (x.session.stands k)
thing_some x p k h = and_some (IsListening p) (x.session.stands k) h

thing_beside : (x y : ScriptEvents) (new : StandingEvent) (p : List ℕ) (t : EventThing) → ((n : ℕ) (st : StandingEvent) → x.session.stands n ≡ Some st → n ≤ x.session.count) → ((m : ℕ) → y.session.stands m ≡ with_next x.session new m) → IsEventThing x p t → IsEventThing y p t
thing_beside x y new p (listener k) low is h =
    subst (λ (o : Option StandingEvent). IsSomeAnd o (IsListening p)) (sym (is k)) (next_there x.session new low (λ o. IsSomeAnd o (IsListening p)) k (thing_some x p k h) h)
thing_beside x y new p (notifier k) low is h =
    subst (λ (o : Option StandingEvent). IsSome o) (sym (is k)) (next_there x.session new low (λ o. IsSome o) k h h)

-- no thing is of the next event
no_listener_yet : (x : ScriptEvents) (n : ℕ) → AreSoundEvents x n → (p m : List ℕ) (k : ℕ) → listener (x.session.count + 1) ≡ listener k → x.things p m ≡ Some (listener k) → ⊥
no_listener_yet x n h p m k e f =
    let same : x.session.count + 1 ≡ k = cc in
    let some = thing_some x p k (h.things p m (listener k) f) in
    false≢true (sym (not_next x.session h.numbered k (x.session.stands k) refl some) ∙ ap (eqb k) same ∙ eqb_self k)

not_both : (k j : ℕ) → notifier k ≡ listener j → ⊥
not_both k j e = cc

notifier_is : (n m : ℕ) → notifier n ≡ notifier m → n ≡ m
notifier_is n m e = cc

-- no notifier either, nor beside a listener of it
no_notifier_yet : (x : ScriptEvents) (n : ℕ) (party name : List ℕ) (m : ℕ) → AreSoundEvents x n → (m == x.session.count + 1) ≡ true → (p q : List ℕ) → with_at x.things party name (Some (listener (x.session.count + 1))) p q ≡ Some (notifier m) → ⊥
no_notifier_yet x n party name m h next p q e =
    elim (at_cases x.things party name (Some (listener (x.session.count + 1))) p q (Some (notifier m)) e) [
      | inl is ↦ not_both m (x.session.count + 1) (sym (some_same _ _ is.2))
      | inr is ↦ false≢true (sym (not_next x.session h.numbered m (x.session.stands m) refl (h.things p q (notifier m) is.1)) ∙ next)
    ]

-- the same listener, which is held or not as it was
record IsSameHolder (st su : StandingEvent) : Type 0 where
  held : su.event.held ≡ st.event.held
  listener : su.listener ≡ st.listener

changed_holder : (n m : ℕ) (f : Event → Event) (st : StandingEvent) → ((e : Event) → (f e).held ≡ e.held) → IsSameHolder st (one_changed n f m st)
changed_holder n m f st kept = record {
  held = elim (m == n) as (λ b. (if b then f st.event else st.event).held ≡ st.event.held) [ true ↦ kept st.event | false ↦ refl ];
  listener = refl;
}

-- what a party held under another name than a free one, it still holds
still_held : (x : ScriptEvents) (party name : List ℕ) (t : EventThing) (p m : List ℕ) (u : EventThing) → x.things party name ≡ None → x.things p m ≡ Some u → with_at x.things party name (Some t) p m ≡ Some u
still_held x party name t p m u none holds =
    elim (either (bytes_eq p party && bytes_eq m name)) [
      | inl same ↦ absurd (
          let both = and_split _ _ same in
          none_some u (sym none ∙ ap (λ (q : List ℕ). x.things q name) (sym (same_text p party both.0)) ∙ ap (x.things p) (sym (same_text m name both.1)) ∙ holds))
      | inr apart ↦ rw apart holds
    ]

-- a name is as it was, where another one is given
named_beside : (names : EventKind → List ℕ → Option ℕ) (k : EventKind) (name : List ℕ) (next : ℕ) (j : EventKind) (text : List ℕ) (m : ℕ) → names k name ≡ None → names j text ≡ Some m → name_held names k name (Some next) j text ≡ Some m
named_beside names k name next j text m none old =
    elim (either (same_event_kind j k && bytes_eq text name)) [
      | inl same ↦ absurd (
          let both = and_split _ _ same in
          none_some m (sym none ∙ ap (λ (i : EventKind). names i name) (sym (kind_is j k both.0)) ∙ ap (names j) (sym (same_text text name both.1)) ∙ old))
      | inr apart ↦ rw apart old
    ]

pub listener_made : (x : ScriptEvents) (n : ℕ) (party name : List ℕ) (k : EventKind) (event : List ℕ) (max : ℕ) → is_event_name event ≡ true → max ≤ 65535 → x.names k event ≡ None → x.things party name ≡ None → x.asked party ≡ None → x.session.doing party ≡ None → AreSoundEvents x n → AreSoundEvents (with_listener x party name k event max) (n + 1)
listener_made x n party name k event max text low unnamed unheld free idle h =
    let new : StandingEvent = record { event = new_event k event max; listener = party } in
    let next : ℕ = x.session.count + 1 in
    record {
      session = more_of x (with_listener x party name k event max) (listen party k event max) h.session tt refl;
      numbered = λ m st e. elim (if_cases (m == next) (Some new) (x.session.stands m) (Some st) e) [
        | inl is ↦ (let a = eqb_true m next is.0 in omega arith)
        | inr is ↦ (let a = h.numbered m st is.1 in omega arith)
      ];
      things = λ p m t e. elim (at_cases x.things party name (Some (listener next)) p m (Some t) e) [
        | inl is ↦ (
            let at : listener next ≡ t = some_same _ t is.2 in
            let own : IsListening party new = record { owner = refl; held = refl } in
            let here : IsSomeAnd (with_next x.session new next) (IsListening party) = subst (λ (o : Option StandingEvent). IsSomeAnd o (IsListening party)) (sym (next_here x.session new)) own in
            subst (λ (u : EventThing). IsEventThing (with_listener x party name k event max) p u) at (subst (λ (q : List ℕ). IsSomeAnd (with_next x.session new next) (IsListening q)) (sym is.0) here))
        | inr is ↦ thing_beside x (with_listener x party name k event max) new p t h.numbered (λ j. refl) (h.things p m t is.1)
      ];
      single = λ p m l j e f. elim (at_cases x.things party name (Some (listener next)) p m (Some (listener j)) e) [
        | inl is ↦ elim (at_cases x.things party name (Some (listener next)) p l (Some (listener j)) f) [
          | inl and ↦ is.1 ∙ sym and.1
          | inr and ↦ absurd (no_listener_yet x n h p l j (some_same _ _ is.2) and.1)
        ]
        | inr is ↦ elim (at_cases x.things party name (Some (listener next)) p l (Some (listener j)) f) [
          | inl and ↦ absurd (no_listener_yet x n h p m j (some_same _ _ and.2) is.1)
          | inr and ↦ h.single p m l j is.1 and.1
        ]
      ];
      calls = λ p d e. held_call x (with_listener x party name k event max) p d d refl refl (λ m t f. at_other x.things party name _ p m (another x.session.doing p party d e idle) ∙ f) (h.calls p d e);
      names = λ j name2 m e. elim (if_cases (same_event_kind j k && bytes_eq name2 event) (Some next) (x.names j name2) (Some m) e) [
        | inl is ↦ (
            let both = and_split _ _ is.0 in
            let at : next ≡ m = some_same _ _ is.1 in
            let named : IsNamed j name2 (new_event k event max) = record { kind = sym (kind_is j k both.0); name_is = sym (same_text name2 event both.1); held = new_held k event max } in
            subst (λ (q : ℕ). IsSomeAnd (event_in (with_next x.session new q)) (IsNamed j name2)) at (subst (λ (o : Option StandingEvent). IsSomeAnd (event_in o) (IsNamed j name2)) (sym (next_here x.session new)) named))
        | inr is ↦ (
            let old = h.names j name2 m is.1 in
            next_there x.session new h.numbered (λ o. IsSomeAnd (event_in o) (IsNamed j name2)) m (event_some (IsNamed j name2) (x.session.stands m) old) old)
      ];
      holders = λ m st e held. elim (if_cases (m == next) (Some new) (x.session.stands m) (Some st) e) [
        | inl is ↦ subst (λ (z : StandingEvent). name_held x.names k event (Some next) z.event.kind z.event.name ≡ Some m) (some_same _ st is.1) (rw (kind_itself k, text_itself event) (ap Some (sym (eqb_true m next is.0))))
        | inr is ↦ named_beside x.names k event next st.event.kind st.event.name m unnamed (h.holders m st is.1 held)
      ];
      listeners = λ m st e held. elim (if_cases (m == next) (Some new) (x.session.stands m) (Some st) e) [
        | inl is ↦ (
            let here : with_at x.things party name (Some (listener next)) party name ≡ Some (listener next) = rw (text_itself party, text_itself name) refl in
            (name, ap (λ (q : List ℕ). with_at x.things party name (Some (listener next)) q name) (sym (ap (λ (z : StandingEvent). z.listener) (some_same _ st is.1))) ∙ here ∙ ap (λ (j : ℕ). Some (listener j)) (sym (eqb_true m next is.0))))
        | inr is ↦ (let k = h.listeners m st is.1 held in (k.0, still_held x party name (listener next) st.listener k.0 (listener m) unheld k.1))
      ];
      notifiers = λ m st e. elim (if_cases (m == next) (Some new) (x.session.stands m) (Some st) e) [
        | inl is ↦ subst (λ (z : StandingEvent). AreNotifiers (with_at x.things party name (Some (listener next))) m z.event.notifiers) (some_same _ st is.1) (no_notifier_yet x n party name m h is.0)
        | inr is ↦ notifiers_beside st.event.notifiers m x.things party name (listener next) (λ same. not_both m next (sym same)) unheld (h.notifiers m st is.1)
      ];
      apart = h.apart;
      asked = h.asked;
      unheld = λ p q e. at_other x.things party name _ p (name_asked q) (another x.asked p party q e free) ∙ h.unheld p q e;
      formed = λ m st e. elim (if_cases (m == next) (Some new) (x.session.stands m) (Some st) e) [
        | inl is ↦ subst (λ (s : StandingEvent). IsFormedEvent (n + 1) s.event) (some_same _ st is.1) (record { text = text; max = low; notifiers = omega arith })
        | inr is ↦ same_formed n st.event st.event (same_event st.event) (h.formed m st is.1)
      ];
      made = (let l = h.made in omega arith);
      taken = (let l = h.taken in omega arith);
    }

-- ---- a notifier more

positive : (c : ℕ) → nat_lt 0 (c + 1) ≡ true
positive c = lt-ltb 0 (c + 1) (omega arith)

found_some : (o : Option StandingEvent) (e : Event) → event_in o ≡ Some e → IsSome o
found_some None e h = absurd (none_some e h)
found_some (Some st) e h = refl

found_formed : (n : ℕ) (o : Option StandingEvent) (e : Event) → event_in o ≡ Some e → ((st : StandingEvent) → o ≡ Some st → IsFormedEvent n st.event) → IsFormedEvent n e
found_formed n None e h f = absurd (none_some e h)
found_formed n (Some st) e h f = subst (λ (y : Event). IsFormedEvent n y) (some_same _ e h) (f st refl)

listening_changed : (p : List ℕ) (n m : ℕ) (f : Event → Event) (st : StandingEvent) → ((e : Event) → (f e).held ≡ e.held) → IsListening p st → IsListening p (one_changed n f m st)
listening_changed p n m f st kept h = changed_holds (λ s. IsListening p s) n m f st (λ at. record { owner = h.owner; held = kept st.event ∙ h.held }) (λ apart. h)

more_notifiers : (k : EventKind) (name : List ℕ) (e : Event) (c : ℕ) → IsNamed k name e → IsNamed k name (record e { notifiers = c + 1 })
more_notifiers k name e c h = record { kind = h.kind; name_is = h.name_is; held = held_more e.kind e.held h.held }
  where
    held_more : (j : EventKind) (held : Bool) → elim j [ kind.Bits ↦ held || nat_lt 0 e.notifiers | kind.Queue ↦ held ] ≡ true → elim j [ kind.Bits ↦ held || nat_lt 0 (c + 1) | kind.Queue ↦ held ] ≡ true
    held_more kind.Bits held h = or_right held _ (positive c)
    held_more kind.Queue held h = h

thing_here : (x y : ScriptEvents) (n : ℕ) (f : Event → Event) (p : List ℕ) (t : EventThing) → ((m : ℕ) → y.session.stands m ≡ change_at x.session.stands n f m) → ((k : ℕ) → t ≡ listener k → (k ≡ n → ⊥) ⊎ ((e : Event) → (f e).held ≡ e.held)) → IsEventThing x p t → IsEventThing y p t
thing_here x y n f p (listener k) is kept h =
    subst (λ (o : Option StandingEvent). IsSomeAnd o (IsListening p)) (sym (is k)) (each_and (IsListening p) (IsListening p) (one_changed n f k) (x.session.stands k) (λ st l. elim (kept k refl) [
      | inl apart ↦ changed_holds (λ s. IsListening p s) n k f st (λ at. absurd (apart at)) (λ other. l)
      | inr held ↦ listening_changed p n k f st held l
    ]) h)
thing_here x y n f p (notifier k) is kept h =
    subst (λ (o : Option StandingEvent). IsSome o) (sym (is k)) (each_some (one_changed n f k) (x.session.stands k) h)

pub notifier_made : (x : ScriptEvents) (n : ℕ) (party name : List ℕ) (k : ℕ) (e : Event) → event_of x.session.stands k ≡ Some e → x.names e.kind e.name ≡ Some k → x.things party name ≡ None → x.asked party ≡ None → x.session.doing party ≡ None → AreSoundEvents x n → AreSoundEvents (notifier_more x party name k e) (n + 1)
notifier_made x n party name k e found named unheld free idle h =
    let f : Event → Event = λ y. record y { notifiers = e.notifiers + 1 } in
    record {
      session = more_of x (notifier_more x party name k e) (notifiers_of k (e.notifiers + 1)) h.session tt refl;
      numbered = λ m st g. (let w = each_was (one_changed k f m) (x.session.stands m) st g in h.numbered m w.old w.was);
      things = λ p m t g. elim (at_cases x.things party name (Some (notifier k)) p m (Some t) g) [
        | inl is ↦ subst (λ (u : EventThing). IsEventThing (notifier_more x party name k e) p u) (some_same _ t is.2) (each_some (one_changed k f k) (x.session.stands k) (found_some (x.session.stands k) e found))
        | inr is ↦ thing_here x (notifier_more x party name k e) k f p t (λ j. refl) (λ j same. inr (λ y. refl)) (h.things p m t is.1)
      ];
      single = λ p m l j a b. elim (at_cases x.things party name (Some (notifier k)) p m (Some (listener j)) a) [
        | inl is ↦ absurd (not_both k j (some_same _ _ is.2))
        | inr is ↦ elim (at_cases x.things party name (Some (notifier k)) p l (Some (listener j)) b) [
          | inl and ↦ absurd (not_both k j (some_same _ _ and.2))
          | inr and ↦ h.single p m l j is.1 and.1
        ]
      ];
      calls = λ p d g. held_call x (notifier_more x party name k e) p d d refl refl (λ m t w. at_other x.things party name _ p m (another x.session.doing p party d g idle) ∙ w) (h.calls p d g);
      names = λ j text m g. each_event (IsNamed j text) (IsNamed j text) (one_changed k f m) (x.session.stands m) (λ st l. changed_holds (λ s. IsNamed j text s.event) k m f st (λ at. more_notifiers j text st.event e.notifiers l) (λ apart. l)) (h.names j text m g);
      holders = λ m st g held. (
          let w = each_was (one_changed k f m) (x.session.stands m) st g in
          subst (λ (z : StandingEvent). holds_name z.event ≡ true → x.names z.event.kind z.event.name ≡ Some m) (sym w.is) (changed_holds (λ s. holds_name s.event ≡ true → x.names s.event.kind s.event.name ≡ Some m) k m f w.old
          (λ at. λ new.
          let same : w.old.event ≡ e = some_same _ e (ap event_in (sym w.was) ∙ ap (λ (j : ℕ). event_in (x.session.stands j)) at ∙ found) in
          ap (λ (y : Event). x.names y.kind y.name) same ∙ named ∙ ap Some (sym at))
          (λ apart. h.holders m w.old w.was)) held);
      listeners = λ m st g held. (
          let w = each_was (one_changed k f m) (x.session.stands m) st g in
          let same : IsSameHolder w.old st = subst (λ (z : StandingEvent). IsSameHolder w.old z) (sym w.is) (changed_holder k m f w.old (λ y. refl)) in
          let old = h.listeners m w.old w.was (sym same.held ∙ held) in
          (old.0, still_held x party name (notifier k) st.listener old.0 (listener m) unheld (ap (λ (q : List ℕ). x.things q old.0) same.listener ∙ old.1)));
      notifiers = λ m st g. (
          let w = each_was (one_changed k f m) (x.session.stands m) st g in
          let was = h.notifiers m w.old w.was in
          subst (λ (z : StandingEvent). AreNotifiers (with_at x.things party name (Some (notifier k))) m z.event.notifiers) (sym w.is) (changed_holds (λ s. AreNotifiers (with_at x.things party name (Some (notifier k))) m s.event.notifiers) k m f w.old
          (λ at.
          let same : w.old.event ≡ e = some_same _ e (ap event_in (sym w.was) ∙ ap (λ (j : ℕ). event_in (x.session.stands j)) at ∙ found) in
          let old : AreNotifiers x.things m e.notifiers = subst (λ (y : Event). AreNotifiers x.things m y.notifiers) same was in
          subst (λ (j : ℕ). AreNotifiers (with_at x.things party name (Some (notifier j))) m (e.notifiers + 1)) at (notifiers_more e.notifiers m x.things party name unheld old))
          (λ apart. notifiers_beside w.old.event.notifiers m x.things party name (notifier k) (λ same. apart (sym (notifier_is k m same))) unheld was)));
      apart = h.apart;
      asked = h.asked;
      unheld = λ p q g. at_other x.things party name _ p (name_asked q) (another x.asked p party q g free) ∙ h.unheld p q g;
      formed = λ m st g. (
          let w = each_was (one_changed k f m) (x.session.stands m) st g in
          let was = h.formed m w.old w.was in
          let here = found_formed n (x.session.stands k) e found (h.formed k) in
          subst (λ (s : StandingEvent). IsFormedEvent (n + 1) s.event) (sym w.is) (changed_holds (λ s. IsFormedEvent (n + 1) s.event) k m f w.old
          (λ at. record { text = was.text; max = was.max; notifiers = (let l = here.notifiers in omega arith) })
          (λ apart. same_formed n w.old.event w.old.event (same_event w.old.event) was)));
      made = (let l = h.made in omega arith);
      taken = (let l = h.taken in omega arith);
    }

-- ---- one that goes

-- a name that is still held was held
left_was : (names : EventKind → List ℕ → Option ℕ) (n : ℕ) (e : Event) (j : EventKind) (text : List ℕ) (m : ℕ) → names_left names n e j text ≡ Some m → names j text ≡ Some m
left_was names n e j text m h =
    elim (if_cases2 (holds_name e) names (without_name names n e (names e.kind e.name)) j text (Some m) h) [
      | inl is ↦ is.1
      | inr is ↦ without_was names n e (names e.kind e.name) j text m is.1
    ]
  where
    if_cases2 : (b : Bool) (f g : EventKind → List ℕ → Option ℕ) (j : EventKind) (text : List ℕ) (z : Option ℕ) → (if b then f else g) j text ≡ z → ((b ≡ true) × (f j text ≡ z)) ⊎ ((b ≡ false) × (g j text ≡ z))
    if_cases2 true f g j text z h = inl (refl, h)
    if_cases2 false f g j text z h = inr (refl, h)

    without_was : (names : EventKind → List ℕ → Option ℕ) (n : ℕ) (e : Event) (o : Option ℕ) (j : EventKind) (text : List ℕ) (m : ℕ) → without_name names n e o j text ≡ Some m → names j text ≡ Some m
    without_was names n e None j text m h = h
    without_was names n e (Some k) j text m h =
        elim (if_cases2 (k == n) (name_held names e.kind e.name None) names j text (Some m) h) [
          | inl is ↦ elim (if_cases (same_event_kind j e.kind && bytes_eq text e.name) None (names j text) (Some m) is.1) [
            | inl none ↦ absurd (none_some m none.1)
            | inr kept ↦ kept.1
          ]
          | inr is ↦ is.1
        ]

-- the event itself still holds its name, where the name is held
left_here : (names : EventKind → List ℕ → Option ℕ) (n : ℕ) (e : Event) → names_left names n e e.kind e.name ≡ Some n → holds_name e ≡ true
left_here names n e h =
    elim (either (holds_name e)) [
      | inl is ↦ is
      | inr is ↦ absurd (
          let was : names e.kind e.name ≡ Some n = left_was names n e e.kind e.name n h in
          let gone : names_left names n e e.kind e.name ≡ without_name names n e (names e.kind e.name) e.kind e.name = rw is refl in
          let none : without_name names n e (Some n) e.kind e.name ≡ None = rw (eqb_self n, kind_itself e.kind, text_itself e.name) refl in
          none_some n (sym none ∙ ap (λ (o : Option ℕ). without_name names n e o e.kind e.name) (sym was) ∙ sym gone ∙ h))
    ]

record FoundEvent (o : Option StandingEvent) (P : Event → Type 0) : Type 0 where
  st : StandingEvent
  is : o ≡ Some st
  holds : P st.event

find_event : (o : Option StandingEvent) (P : Event → Type 0) → IsSomeAnd (event_in o) P → FoundEvent o P
find_event None P h = absurd h
find_event (Some st) P h = record { st = st; is = refl; holds = h }

-- names after a holder of event n went
dropped_named : (x : ScriptEvents) (c n : ℕ) (e : Event) (f : Event → Event) → event_of x.session.stands n ≡ Some e → ((y : Event) → (f y).kind ≡ y.kind) → ((y : Event) → (f y).name ≡ y.name) → AreSoundEvents x c → (j : EventKind) (text : List ℕ) (m : ℕ) → names_left x.names n (f e) j text ≡ Some m → IsSomeAnd (event_of (change_at x.session.stands n f) m) (IsNamed j text)
dropped_named x c n e f found kinds texts h j text m left =
    let old = find_event (x.session.stands m) (IsNamed j text) (h.names j text m (left_was x.names n (f e) j text m left)) in
    let new : IsNamed j text (one_changed n f m old.st).event = changed_holds (λ s. IsNamed j text s.event) n m f old.st
    (λ at.
    let same : old.st.event ≡ e = some_same _ e (ap event_in (sym old.is) ∙ ap (λ (k : ℕ). event_in (x.session.stands k)) at ∙ found) in
    let kind_at : (f e).kind ≡ j = ap (λ (y : Event). (f y).kind) (sym same) ∙ kinds old.st.event ∙ old.holds.kind in
    let text_at : (f e).name ≡ text = ap (λ (y : Event). (f y).name) (sym same) ∙ texts old.st.event ∙ old.holds.name_is in
    let here : names_left x.names n (f e) (f e).kind (f e).name ≡ Some n = ap (λ (k : EventKind). names_left x.names n (f e) k (f e).name) kind_at ∙ ap (names_left x.names n (f e) j) text_at ∙ left ∙ ap Some at in
    record {
      kind = kinds old.st.event ∙ old.holds.kind;
      name_is = texts old.st.event ∙ old.holds.name_is;
      held = ap (λ (y : Event). holds_name (f y)) same ∙ left_here x.names n (f e) here;
    })
    (λ apart. old.holds) in
    subst (λ (o : Option StandingEvent). IsSomeAnd (event_in (each (one_changed n f m) o)) (IsNamed j text)) (sym old.is) new

-- a name that another event holds is as it was
left_stays : (names : EventKind → List ℕ → Option ℕ) (n : ℕ) (e : Event) (j : EventKind) (text : List ℕ) (m : ℕ) → (m ≡ n → ⊥) → names j text ≡ Some m → names_left names n e j text ≡ Some m
left_stays names n e j text m apart old =
    elim (either (holds_name e)) [
      | inl is ↦ rw is old
      | inr is ↦ rw is (without (names e.kind e.name) refl)
    ]
  where
    held : (k : ℕ) → names e.kind e.name ≡ Some k → k ≡ n → name_held names e.kind e.name None j text ≡ Some m
    held k named same =
        elim (either (same_event_kind j e.kind && bytes_eq text e.name)) [
          | inl here ↦ absurd (
              let both = and_split _ _ here in
              let k_is : Some k ≡ Some m = sym named ∙ ap (λ (i : EventKind). names i e.name) (sym (kind_is j e.kind both.0)) ∙ ap (names j) (sym (same_text text e.name both.1)) ∙ old in
              apart (sym (some_same k m k_is) ∙ same))
          | inr there ↦ rw there old
        ]

    without : (o : Option ℕ) → names e.kind e.name ≡ o → without_name names n e o j text ≡ Some m
    without None named = old
    without (Some k) named =
        elim (either (k == n)) [
          | inl same ↦ rw same (held k named (eqb_true k n same))
          | inr other ↦ rw other old
        ]

-- the events that hold their names after a holder of event n went
dropped_holders : (x : ScriptEvents) (c n : ℕ) (e : Event) (f : Event → Event) → event_of x.session.stands n ≡ Some e → (f e).kind ≡ e.kind → (f e).name ≡ e.name → (holds_name (f e) ≡ true → holds_name e ≡ true) → AreSoundEvents x c
    → (m : ℕ) (st : StandingEvent) → change_at x.session.stands n f m ≡ Some st → holds_name st.event ≡ true → names_left x.names n (f e) st.event.kind st.event.name ≡ Some m
dropped_holders x c n e f found kind_is name_is held_before h m st g held =
    let w = each_was (one_changed n f m) (x.session.stands m) st g in
    subst (λ (z : StandingEvent). holds_name z.event ≡ true → names_left x.names n (f e) z.event.kind z.event.name ≡ Some m) (sym w.is)
    (changed_holds (λ s. holds_name s.event ≡ true → names_left x.names n (f e) s.event.kind s.event.name ≡ Some m) n m f w.old
    (λ at.
    let same : w.old.event ≡ e = some_same _ e (ap event_in (sym w.was) ∙ ap (λ (j : ℕ). event_in (x.session.stands j)) at ∙ found) in
    let old : holds_name e ≡ true → x.names e.kind e.name ≡ Some m = subst (λ (y : Event). holds_name y ≡ true → x.names y.kind y.name ≡ Some m) same (h.holders m w.old w.was) in
    let new : holds_name (f e) ≡ true → names_left x.names n (f e) (f e).kind (f e).name ≡ Some m =
    λ holds. rw holds (ap (λ (k : EventKind). x.names k (f e).name) kind_is ∙ ap (x.names e.kind) name_is ∙ old (held_before holds)) in
    subst (λ (y : Event). holds_name (f y) ≡ true → names_left x.names n (f e) (f y).kind (f y).name ≡ Some m) (sym same) new)
    (λ apart. λ holds. left_stays x.names n (f e) w.old.event.kind w.old.event.name m apart (h.holders m w.old w.was holds))) held

-- whether a name is held, by the parts of its event
abbrev name_held_by : EventKind → Bool → ℕ → Bool
name_held_by k held notifiers = elim k [ kind.Bits ↦ held || nat_lt 0 notifiers | kind.Queue ↦ held ]

held_without : (k : EventKind) (held : Bool) (notifiers : ℕ) → name_held_by k false notifiers ≡ true → name_held_by k held notifiers ≡ true
held_without kind.Bits held notifiers h = or_right held _ h
held_without kind.Queue held notifiers h = absurd (false≢true h)

fewer_positive : (c : ℕ) → nat_lt 0 (c - 1) ≡ true → nat_lt 0 c ≡ true
fewer_positive c h = let l : 0 < c - 1 = (Decides-ltb 0 (c - 1)).0 h in lt-ltb 0 c (omega arith)

held_with_fewer : (k : EventKind) (held : Bool) (c : ℕ) → name_held_by k held (c - 1) ≡ true → name_held_by k held c ≡ true
held_with_fewer kind.Bits true c h = refl
held_with_fewer kind.Bits false c h = fewer_positive c h
held_with_fewer kind.Queue held c h = h

-- what a party holds beside a thing that goes, it still holds
left_held : (x : ScriptEvents) (party name : List ℕ) (t : EventThing) (p m : List ℕ) (u : EventThing) → x.things party name ≡ Some t → (t ≡ u → ⊥) → x.things p m ≡ Some u → with_at x.things party name None p m ≡ Some u
left_held x party name t p m u goes other holds =
    elim (either (bytes_eq p party && bytes_eq m name)) [
      | inl same ↦ absurd (
          let both = and_split _ _ same in
          other (some_same t u (sym goes ∙ ap (λ (q : List ℕ). x.things q name) (sym (same_text p party both.0)) ∙ ap (x.things p) (sym (same_text m name both.1)) ∙ holds)))
      | inr apart ↦ rw apart holds
    ]

listener_is : (n m : ℕ) → listener n ≡ listener m → n ≡ m
listener_is n m e = cc

-- the event whose listener went, and another one
released_not : (n m : ℕ) (f : Event → Event) (st : StandingEvent) → m ≡ n → ((e : Event) → (f e).held ≡ false) → (one_changed n f m st).event.held ≡ false
released_not n m f st at goes = rw (ap (λ (k : ℕ). eqb m k) (sym at) ∙ eqb_self m) (goes st.event)

unchanged_holder : (n m : ℕ) (f : Event → Event) (st : StandingEvent) → (m ≡ n → ⊥) → IsSameHolder st (one_changed n f m st)
unchanged_holder n m f st apart = rw (is_false (eqb m n) (λ y. apart (eqb_true m n y))) (record { held = refl; listener = refl })

-- the listener's party is the holder
owner_is : (o : Option StandingEvent) (p q : List ℕ) → IsSomeAnd o (IsListening p) → IsSomeAnd o (IsListening q) → p ≡ q
owner_is None p q h g = absurd h
owner_is (Some st) p q h g = sym h.owner ∙ g.owner

-- the holder does nothing
pub free_holder : (x : ScriptEvents) (p : List ℕ) (o : Option StandingEvent) → x.session.doing p ≡ None → IsSomeAnd o (IsListening p) → IsSomeAnd o (λ st. x.session.doing st.listener ≡ None)
free_holder x p None idle h = absurd h
free_holder x p (Some st) idle h = ap x.session.doing h.owner ∙ idle

at_none : (f : List ℕ → List ℕ → Option EventThing) (party name p n : List ℕ) → f p n ≡ None → with_at f party name None p n ≡ None
at_none f party name p n e = elim (bytes_eq p party && bytes_eq n name) as (λ b. (if b then None else f p n) ≡ None) [ true ↦ refl | false ↦ e ]

pub listener_dropped : (x : ScriptEvents) (c : ℕ) (party name : List ℕ) (n : ℕ) (e : Event) → event_of x.session.stands n ≡ Some e → x.things party name ≡ Some (listener n) → x.session.doing party ≡ None → AreSoundEvents x c → AreSoundEvents (record x { session = next_session x.session (release_of n); names = names_left x.names n (record e { held = false }); things = with_at x.things party name None }) (c + 1)
listener_dropped x c party name n e found holds idle h =
    let f : Event → Event = λ y. record y { held = false } in
    let y : ScriptEvents = record x { session = next_session x.session (release_of n); names = names_left x.names n (record e { held = false }); things = with_at x.things party name None } in
    let own : IsSomeAnd (x.session.stands n) (IsListening party) = h.things party name (listener n) holds in
    record {
      session = more_of x y (release_of n) h.session (free_holder x party (x.session.stands n) idle own) refl;
      numbered = λ m st g. (let w = each_was (one_changed n f m) (x.session.stands m) st g in h.numbered m w.old w.was);
      things = λ p m t g. elim (at_cases x.things party name None p m (Some t) g) [
        | inl is ↦ absurd (none_some t is.2)
        | inr is ↦ (
            let was = h.things p m t is.1 in
            thing_here x y n f p t (λ j. refl) (λ j same. inl (λ at.
            let its : x.things p m ≡ Some (listener n) = is.1 ∙ ap Some same ∙ ap (λ (k : ℕ). Some (listener k)) at in
            let party_is : p ≡ party = owner_is (x.session.stands n) p party (h.things p m (listener n) its) own in
            is.0 party_is (h.single party m name n (ap (λ (q : List ℕ). x.things q m) (sym party_is) ∙ its) holds))) was)
      ];
      single = λ p m l j a b. elim (at_cases x.things party name None p m (Some (listener j)) a) [
        | inl is ↦ absurd (none_some _ is.2)
        | inr is ↦ elim (at_cases x.things party name None p l (Some (listener j)) b) [
          | inl and ↦ absurd (none_some _ and.2)
          | inr and ↦ h.single p m l j is.1 and.1
        ]
      ];
      calls = λ p d g. held_call x y p d d refl refl (λ m t w. at_other x.things party name None p m (another x.session.doing p party d g idle) ∙ w) (h.calls p d g);
      names = dropped_named x c n e f found (λ y. refl) (λ y. refl) h;
      holders = dropped_holders x c n e f found refl refl (held_without e.kind e.held e.notifiers) h;
      listeners = λ m st g held. (
          let w = each_was (one_changed n f m) (x.session.stands m) st g in
          let apart : (m ≡ n → ⊥) = λ at. false≢true (sym (released_not n m f w.old at (λ y. refl)) ∙ ap (λ (z : StandingEvent). z.event.held) (sym w.is) ∙ held) in
          let same : IsSameHolder w.old st = subst (λ (z : StandingEvent). IsSameHolder w.old z) (sym w.is) (unchanged_holder n m f w.old apart) in
          let old = h.listeners m w.old w.was (sym same.held ∙ held) in
          (old.0, left_held x party name (listener n) st.listener old.0 (listener m) holds (λ e. apart (sym (listener_is n m e))) (ap (λ (q : List ℕ). x.things q old.0) same.listener ∙ old.1)));
      notifiers = λ m st g. (
          let w = each_was (one_changed n f m) (x.session.stands m) st g in
          let left : AreNotifiers (with_at x.things party name None) m w.old.event.notifiers = notifiers_without w.old.event.notifiers m x.things party name (listener n) (λ same. not_both m n (sym same)) holds (h.notifiers m w.old w.was) in
          subst (λ (z : StandingEvent). AreNotifiers (with_at x.things party name None) m z.event.notifiers) (sym w.is) (changed_holds (λ s. AreNotifiers (with_at x.things party name None) m s.event.notifiers) n m f w.old (λ at. left) (λ apart. left)));
      apart = h.apart;
      asked = h.asked;
      unheld = λ p q g. at_none x.things party name p (name_asked q) (h.unheld p q g);
      formed = λ m st g. (
          let w = each_was (one_changed n f m) (x.session.stands m) st g in
          let was = h.formed m w.old w.was in
          subst (λ (s : StandingEvent). IsFormedEvent (c + 1) s.event) (sym w.is) (changed_holds (λ s. IsFormedEvent (c + 1) s.event) n m f w.old
          (λ at. record { text = was.text; max = was.max; notifiers = (let l = was.notifiers in omega arith) })
          (λ apart. same_formed c w.old.event w.old.event (same_event w.old.event) was)));
      made = (let l = h.made in omega arith);
      taken = (let l = h.taken in omega arith);
    }

pub notifier_dropped : (x : ScriptEvents) (c : ℕ) (party name : List ℕ) (n : ℕ) (e : Event) → event_of x.session.stands n ≡ Some e → x.things party name ≡ Some (notifier n) → x.session.doing party ≡ None → AreSoundEvents x c → AreSoundEvents (record x { session = next_session x.session (notifiers_of n (e.notifiers - 1)); names = names_left x.names n (record e { notifiers = e.notifiers - 1 }); things = with_at x.things party name None }) (c + 1)
notifier_dropped x c party name n e found holds idle h =
    let f : Event → Event = λ y. record y { notifiers = e.notifiers - 1 } in
    let y : ScriptEvents = record x { session = next_session x.session (notifiers_of n (e.notifiers - 1)); names = names_left x.names n (record e { notifiers = e.notifiers - 1 }); things = with_at x.things party name None } in
    record {
      session = more_of x y (notifiers_of n (e.notifiers - 1)) h.session tt refl;
      numbered = λ m st g. (let w = each_was (one_changed n f m) (x.session.stands m) st g in h.numbered m w.old w.was);
      things = λ p m t g. elim (at_cases x.things party name None p m (Some t) g) [
        | inl is ↦ absurd (none_some t is.2)
        | inr is ↦ thing_here x y n f p t (λ j. refl) (λ j same. inr (λ y. refl)) (h.things p m t is.1)
      ];
      single = λ p m l j a b. elim (at_cases x.things party name None p m (Some (listener j)) a) [
        | inl is ↦ absurd (none_some _ is.2)
        | inr is ↦ elim (at_cases x.things party name None p l (Some (listener j)) b) [
          | inl and ↦ absurd (none_some _ and.2)
          | inr and ↦ h.single p m l j is.1 and.1
        ]
      ];
      calls = λ p d g. held_call x y p d d refl refl (λ m t w. at_other x.things party name None p m (another x.session.doing p party d g idle) ∙ w) (h.calls p d g);
      names = dropped_named x c n e f found (λ y. refl) (λ y. refl) h;
      holders = dropped_holders x c n e f found refl refl (held_with_fewer e.kind e.held e.notifiers) h;
      listeners = λ m st g held. (
          let w = each_was (one_changed n f m) (x.session.stands m) st g in
          let same : IsSameHolder w.old st = subst (λ (z : StandingEvent). IsSameHolder w.old z) (sym w.is) (changed_holder n m f w.old (λ y. refl)) in
          let old = h.listeners m w.old w.was (sym same.held ∙ held) in
          (old.0, left_held x party name (notifier n) st.listener old.0 (listener m) holds (not_both n m) (ap (λ (q : List ℕ). x.things q old.0) same.listener ∙ old.1)));
      notifiers = λ m st g. (
          let w = each_was (one_changed n f m) (x.session.stands m) st g in
          let was = h.notifiers m w.old w.was in
          subst (λ (z : StandingEvent). AreNotifiers (with_at x.things party name None) m z.event.notifiers) (sym w.is) (changed_holds (λ s. AreNotifiers (with_at x.things party name None) m s.event.notifiers) n m f w.old
          (λ at.
          let same : w.old.event ≡ e = some_same _ e (ap event_in (sym w.was) ∙ ap (λ (j : ℕ). event_in (x.session.stands j)) at ∙ found) in
          let old : AreNotifiers x.things m e.notifiers = subst (λ (y : Event). AreNotifiers x.things m y.notifiers) same was in
          notifiers_fewer e.notifiers m x.things party name (holds ∙ ap (λ (j : ℕ). Some (notifier j)) (sym at)) old)
          (λ apart. notifiers_without w.old.event.notifiers m x.things party name (notifier n) (λ same. apart (sym (notifier_is n m same))) holds was)));
      apart = h.apart;
      asked = h.asked;
      unheld = λ p q g. at_none x.things party name p (name_asked q) (h.unheld p q g);
      formed = λ m st g. (
          let w = each_was (one_changed n f m) (x.session.stands m) st g in
          let was = h.formed m w.old w.was in
          let here = found_formed c (x.session.stands n) e found (h.formed n) in
          subst (λ (s : StandingEvent). IsFormedEvent (c + 1) s.event) (sym w.is) (changed_holds (λ s. IsFormedEvent (c + 1) s.event) n m f w.old
          (λ at. record { text = was.text; max = was.max; notifiers = (let l = here.notifiers in omega arith) })
          (λ apart. same_formed c w.old.event w.old.event (same_event w.old.event) was)));
      made = (let l = h.made in omega arith);
      taken = (let l = h.taken in omega arith);
    }
