-- Each turn of events keeps the facts on events.
use Rattle.std.proofs.Common.{◌≡◌, ℕ, ◌+◌, Bool, true, false, refl, sym, ◌∙◌, ap, ◌⊎◌, inl, inr, arith, subst, Some, None, Option, List, ◌∷◌}
use Rattle.std.specs.Prelude.{if◌then◌else◌, ◌&&◌, IsSome, IsSomeAnd}
use Rattle.std.specs.Str.{bytes_eq}
use Rattle.std.proofs.lemmas.Bool.{false≢true}
use Rattle.std.proofs.lemmas.Slice.Eq.{bytes_eq-Decides}
use Rattle.board_event_model.specs.declared.access.EventAccess.{EventAccess}
use Rattle.board_event_model.specs.declared.access.EventAnswer.{EventAnswer}
use Rattle.board_event_model.specs.declared.kind.EventKind.{EventKind}
use Rattle.board_event_model.specs.EventMemory.{Event, IsRight, after, holds_name}
use Rattle.board_event_model.specs.EventCalls.{EventCall, is_last, owed, turn, RunningCall, call_of, new_call, went_on}
use Rattle.board_event_model.specs.EventSessions.{EventLine, EventSession, IsEventLine, MayTake, PartyCall, StandingEvent, abandon_of, begin_on, do_at, doing_on, expire_of, gone_with, next_session, step_of, stepped_on, took_step}
use Rattle.board_event_model.proofs.SetLemmas.{and_join, and_split, is_false}
use Rattle.board_event_model.proofs.SoundLemmas.{none_some, some_same}
use Rattle.board_model.specs.Things.{with_at}
use Rattle.script_model.specs.ScriptEvents.{EventAsk, EventThing, ScriptEvents, events_abandoned, listener, notifier, with_ask}
use Rattle.script_model.specs.SoundEvents.{AreNotifiers, AreSoundEvents, HoldersAreNamed, IsCallOfThing, IsEventThing, IsFormedAsk, IsFormedEvent, IsHeldCall, IsListening, IsNamed, IsOfSession, ListenersAreThings, NotifiersAreThings, name_asked}
use Rattle.script_model.proofs.EachLemmas.{IsSameEvent, IsSameStanding, after_same, changed_same, each, each_and, each_event, each_some, each_was, event_in, gone_same, one_changed, same_event, same_formed, same_holds, same_listening, same_named}

-- ---- tables of functions

-- a test was met or not
pub if_cases : {A : Type 0} (b : Bool) (x y z : A) → (if b then x else y) ≡ z → ((b ≡ true) × (x ≡ z)) ⊎ ((b ≡ false) × (y ≡ z))
if_cases true x y z h = inl (refl, h)
if_cases false x y z h = inr (refl, h)

pub same_text : (a b : List ℕ) → bytes_eq a b ≡ true → a ≡ b
same_text a b h = (bytes_eq-Decides a b).0 h

pub text_itself : (a : List ℕ) → bytes_eq a a ≡ true
text_itself a = (bytes_eq-Decides a a).1 refl

pub other_text : (a b : List ℕ) → (a ≡ b → ⊥) → bytes_eq a b ≡ false
other_text a b h = is_false _ (λ e. h (same_text a b e))

-- of one party what was put, of the others what was there
pub put_cases : {A : Type 0} (f : List ℕ → Option A) (party : List ℕ) (x : Option A) (p : List ℕ) (y : Option A) → (if bytes_eq p party then x else f p) ≡ y → ((p ≡ party) × (x ≡ y)) ⊎ ((p ≡ party → ⊥) × (f p ≡ y))
put_cases f party x p y h =
    elim (if_cases (bytes_eq p party) x (f p) y h) [
      | inl is ↦ inl (same_text p party is.0, is.1)
      | inr is ↦ inr ((λ e. false≢true (sym is.0 ∙ ap (bytes_eq p) (sym e) ∙ text_itself p)), is.1)
    ]

pub put_other : {A : Type 0} (f : List ℕ → Option A) (party : List ℕ) (x : Option A) (p : List ℕ) → (p ≡ party → ⊥) → (if bytes_eq p party then x else f p) ≡ f p
put_other f party x p h = rw (other_text p party h) refl

pub at_cases : {A : Type 0} (f : List ℕ → List ℕ → Option A) (party name : List ℕ) (x : Option A) (p n : List ℕ) (y : Option A) → with_at f party name x p n ≡ y → ((p ≡ party) × (n ≡ name) × (x ≡ y)) ⊎ ((p ≡ party → n ≡ name → ⊥) × (f p n ≡ y))
at_cases f party name x p n y h =
    elim (if_cases (bytes_eq p party && bytes_eq n name) x (f p n) y h) [
      | inl is ↦ (let w = and_split _ _ is.0 in inl (same_text p party w.0, same_text n name w.1, is.1))
      | inr is ↦ inr ((λ e g. false≢true (sym is.0 ∙ and_join _ _ (ap (bytes_eq p) (sym e) ∙ text_itself p) (ap (bytes_eq n) (sym g) ∙ text_itself n))), is.1)
    ]

pub at_other : {A : Type 0} (f : List ℕ → List ℕ → Option A) (party name : List ℕ) (x : Option A) (p n : List ℕ) → (p ≡ party → ⊥) → with_at f party name x p n ≡ f p n
at_other f party name x p n h = rw (other_text p party h) refl

-- ---- what stays

pub same_session : (x y : ScriptEvents) → y.session ≡ x.session → IsOfSession x → IsOfSession y
same_session x y e h = record { lines = h.lines; allowed = h.allowed; is = e ∙ h.is }

pub more_of : (x y : ScriptEvents) (l : EventLine) → IsOfSession x → IsEventLine x.session l → y.session ≡ next_session x.session l → IsOfSession y
more_of x y l h ok e = record {
  lines = l ∷ h.lines;
  allowed = (h.allowed, subst (λ (s : EventSession). IsEventLine s l) h.is ok);
  is = e ∙ ap (λ (s : EventSession). next_session s l) h.is;
}

-- a call is still held, where the party's things are
pub held_call : (x y : ScriptEvents) (p : List ℕ) (d f : PartyCall) → f.on ≡ d.on → f.call.first ≡ d.call.first → ((m : List ℕ) (t : EventThing) → x.things p m ≡ Some t → y.things p m ≡ Some t) → IsHeldCall x p d → IsHeldCall y p f
held_call x y p d f on first kept h = record {
  name = h.name;
  thing = h.thing;
  found = kept h.name h.thing h.found;
  uses = subst (λ (c : EventCall). IsCallOfThing h.thing f.on c) (sym first) (subst (λ (n : ℕ). IsCallOfThing h.thing n d.call.first) (sym on) h.uses);
}

formed_more : (n : ℕ) (e : Event) → IsFormedEvent n e → IsFormedEvent (n + 1) e
formed_more n e h = same_formed n e e (same_event e) h

-- a line more
pub grown : (x : ScriptEvents) (n : ℕ) → AreSoundEvents x n → AreSoundEvents x (n + 1)
grown x n h = record {
  session = h.session;
  numbered = h.numbered;
  things = h.things;
  single = h.single;
  calls = h.calls;
  names = h.names;
  holders = h.holders;
  listeners = h.listeners;
  notifiers = h.notifiers;
  apart = h.apart;
  asked = h.asked;
  unheld = h.unheld;
  formed = λ m st e. formed_more n st.event (h.formed m st e);
  made = (let l = h.made in omega arith);
  taken = (let l = h.taken in omega arith);
}

-- ---- what is asked for

-- a party asks for this, or for nothing
pub asks : (x : ScriptEvents) (n : ℕ) (party : List ℕ) (o : Option EventAsk) → ((q : EventAsk) → o ≡ Some q → (x.session.doing party ≡ None) × IsFormedAsk q × (x.things party (name_asked q) ≡ None)) → AreSoundEvents x n → AreSoundEvents (record x { asked = with_ask x.asked party o }) n
asks x n party o ok h = record {
  session = same_session x _ refl h.session;
  numbered = h.numbered;
  things = h.things;
  single = h.single;
  calls = λ p d e. held_call x _ p d d refl refl (λ m t f. f) (h.calls p d e);
  names = h.names;
  holders = h.holders;
  listeners = h.listeners;
  notifiers = h.notifiers;
  apart = λ p q e. elim (put_cases x.asked party o p (Some q) e) [
    | inl is ↦ ap x.session.doing is.0 ∙ (ok q is.1).0
    | inr is ↦ h.apart p q is.1
  ];
  asked = λ p q e. elim (put_cases x.asked party o p (Some q) e) [ inl is ↦ (ok q is.1).1 | inr is ↦ h.asked p q is.1 ];
  unheld = λ p q e. elim (put_cases x.asked party o p (Some q) e) [
    | inl is ↦ ap (λ (r : List ℕ). x.things r (name_asked q)) is.0 ∙ (ok q is.1).2
    | inr is ↦ h.unheld p q is.1
  ];
  formed = h.formed;
  made = h.made;
  taken = h.taken;
}

pub asks_no_more : (x : ScriptEvents) (n : ℕ) (party : List ℕ) → AreSoundEvents x n → AreSoundEvents (record x { asked = with_ask x.asked party None }) n
asks_no_more x n party h = asks x n party None (λ q e. absurd (none_some q e)) h

-- a party that asks, or runs a call, is another than one that doesn't
pub another : {A : Type 0} (f : List ℕ → Option A) (p q : List ℕ) (a : A) → f p ≡ Some a → f q ≡ None → p ≡ q → ⊥
another f p q a e g same = none_some a (sym g ∙ ap f (sym same) ∙ e)

-- ---- calls that begin and end

-- the table of calls with this for one party
pub call_begun : (x : ScriptEvents) (n : ℕ) (party : List ℕ) (on : ℕ) (c : EventCall) → x.asked party ≡ None → IsHeldCall x party (record { on = on; call = new_call x.session.begun c }) → IsEventLine x.session (begin_on party on c) → AreSoundEvents x n → AreSoundEvents (record x { session = next_session x.session (begin_on party on c) }) n
call_begun x n party on c free held ok h = record {
  session = more_of x _ (begin_on party on c) h.session ok refl;
  numbered = h.numbered;
  things = h.things;
  single = h.single;
  calls = λ p d e. elim (put_cases x.session.doing party (Some (record { on = on; call = new_call x.session.begun c })) p (Some d) e) [
    | inl is ↦ (
        let y : ScriptEvents = record x { session = next_session x.session (begin_on party on c) } in
        let same = some_same _ d is.1 in
        subst (λ (q : List ℕ). IsHeldCall y q d) (sym is.0) (subst (λ (f : PartyCall). IsHeldCall y party f) same (held_call x y party _ _ refl refl (λ m t f. f) held)))
    | inr is ↦ held_call x _ p d d refl refl (λ m t f. f) (h.calls p d is.1)
  ];
  names = h.names;
  holders = h.holders;
  listeners = h.listeners;
  notifiers = h.notifiers;
  apart = λ p q e. put_other x.session.doing party _ p (another x.asked p party q e free) ∙ h.apart p q e;
  asked = h.asked;
  unheld = h.unheld;
  formed = h.formed;
  made = h.made;
  taken = h.taken;
}

-- a party runs nothing any more
none_other : (f : List ℕ → Option PartyCall) (party p : List ℕ) → f p ≡ None → do_at f party None p ≡ None
none_other f party p e = elim (bytes_eq p party) as (λ b. (if b then None else f p) ≡ None) [ true ↦ refl | false ↦ e ]

pub call_ended : (x : ScriptEvents) (n : ℕ) (party : List ℕ) → IsEventLine x.session (expire_of party) → AreSoundEvents x n → AreSoundEvents (record x { session = next_session x.session (expire_of party) }) n
call_ended x n party ok h = record {
  session = more_of x _ (expire_of party) h.session ok refl;
  numbered = h.numbered;
  things = h.things;
  single = h.single;
  calls = λ p d e. elim (put_cases x.session.doing party None p (Some d) e) [
    | inl is ↦ absurd (none_some d is.1)
    | inr is ↦ held_call x _ p d d refl refl (λ m t f. f) (h.calls p d is.1)
  ];
  names = h.names;
  holders = h.holders;
  listeners = h.listeners;
  notifiers = h.notifiers;
  apart = λ p q e. none_other x.session.doing party p (h.apart p q e);
  asked = h.asked;
  unheld = h.unheld;
  formed = h.formed;
  made = h.made;
  taken = h.taken;
}

-- ---- changes of events that keep what they are

-- an event that holds its name is still named, where each event is as it was to its holders
holders_kept : (x y : ScriptEvents) (g : ℕ → StandingEvent → StandingEvent) → ((m : ℕ) → y.session.stands m ≡ each (g m) (x.session.stands m)) → ((m : ℕ) (st : StandingEvent) → IsSameEvent st.event (g m st).event) → y.names ≡ x.names → HoldersAreNamed x → HoldersAreNamed y
holders_kept x y g is same names old n st e held =
    let w = each_was (g n) (x.session.stands n) st (sym (is n) ∙ e) in
    let s = same n w.old in
    let new : holds_name (g n w.old).event ≡ true → x.names (g n w.old).event.kind (g n w.old).event.name ≡ Some n =
    λ h. ap (λ (k : EventKind). x.names k (g n w.old).event.name) s.kind ∙ ap (x.names w.old.event.kind) s.name ∙ old n w.old w.was (sym (same_holds w.old.event (g n w.old).event s) ∙ h) in
    ap (λ (f : EventKind → List ℕ → Option ℕ). f st.event.kind st.event.name) names
    ∙ subst (λ (z : StandingEvent). holds_name z.event ≡ true → x.names z.event.kind z.event.name ≡ Some n) (sym w.is) new held

-- a listener that is held is still a thing of its party
listeners_kept : (x y : ScriptEvents) (g : ℕ → StandingEvent → StandingEvent) → ((m : ℕ) → y.session.stands m ≡ each (g m) (x.session.stands m)) → ((m : ℕ) (st : StandingEvent) → IsSameStanding st (g m st)) → y.things ≡ x.things → ListenersAreThings x → ListenersAreThings y
listeners_kept x y g is same things old n st e held =
    let w = each_was (g n) (x.session.stands n) st (sym (is n) ∙ e) in
    let s = same n w.old in
    let was : w.old.event.held ≡ true = sym s.event.held ∙ ap (λ (z : StandingEvent). z.event.held) (sym w.is) ∙ held in
    let k = old n w.old w.was was in
    let owner : st.listener ≡ w.old.listener = ap (λ (z : StandingEvent). z.listener) w.is ∙ s.listener in
    (k.0, ap (λ (f : List ℕ → List ℕ → Option EventThing). f st.listener k.0) things ∙ ap (λ (p : List ℕ). x.things p k.0) owner ∙ k.1)

-- the notifiers that an event counts are still those of parties
notifiers_kept : (x y : ScriptEvents) (g : ℕ → StandingEvent → StandingEvent) → ((m : ℕ) → y.session.stands m ≡ each (g m) (x.session.stands m)) → ((m : ℕ) (st : StandingEvent) → IsSameEvent st.event (g m st).event) → y.things ≡ x.things → NotifiersAreThings x → NotifiersAreThings y
notifiers_kept x y g is same things old n st e =
    let w = each_was (g n) (x.session.stands n) st (sym (is n) ∙ e) in
    let count : st.event.notifiers ≡ w.old.event.notifiers = ap (λ (z : StandingEvent). z.event.notifiers) w.is ∙ (same n w.old).notifiers in
    subst (λ (f : List ℕ → List ℕ → Option EventThing). AreNotifiers f n st.event.notifiers) (sym things) (subst (AreNotifiers x.things n) (sym count) (old n w.old w.was))

-- the thing still stands, where each event is as it was to its holders
thing_kept : (x y : ScriptEvents) (g : ℕ → StandingEvent → StandingEvent) → ((m : ℕ) → y.session.stands m ≡ each (g m) (x.session.stands m)) → ((m : ℕ) (p : List ℕ) (st : StandingEvent) → IsListening p st → IsListening p (g m st)) → (p : List ℕ) (t : EventThing) → IsEventThing x p t → IsEventThing y p t
thing_kept x y g is kept p (listener m) h = subst (λ (o : Option StandingEvent). IsSomeAnd o (IsListening p)) (sym (is m)) (each_and (IsListening p) (IsListening p) (g m) (x.session.stands m) (kept m p) h)
thing_kept x y g is kept p (notifier m) h = subst (λ (o : Option StandingEvent). IsSome o) (sym (is m)) (each_some (g m) (x.session.stands m) h)

pub party_abandoned : (x : ScriptEvents) (n : ℕ) (party : List ℕ) → AreSoundEvents x n → AreSoundEvents (events_abandoned x party) (n + 1)
party_abandoned x n party old =
    let h = asks_no_more x n party old in
    record {
      session = more_of x _ (abandon_of party) old.session tt refl;
      numbered = λ m st e. (let w = each_was (gone_with party) (x.session.stands m) st e in old.numbered m w.old w.was);
      things = λ p m t e. thing_kept x (events_abandoned x party) (λ k. gone_with party) (λ k. refl) (λ k q st l. same_listening q st (gone_with party st) (gone_same party st) l) p t (old.things p m t e);
      single = old.single;
      calls = λ p d e. elim (put_cases x.session.doing party None p (Some d) e) [
        | inl is ↦ absurd (none_some d is.1)
        | inr is ↦ held_call x _ p d d refl refl (λ m t f. f) (old.calls p d is.1)
      ];
      names = λ k text m e. each_event (IsNamed k text) (IsNamed k text) (gone_with party) (x.session.stands m) (λ st l. same_named k text st.event (gone_with party st).event (gone_same party st).event l) (old.names k text m e);
      holders = holders_kept x (events_abandoned x party) (λ k. gone_with party) (λ k. refl) (λ k st. (gone_same party st).event) refl old.holders;
      listeners = listeners_kept x (events_abandoned x party) (λ k. gone_with party) (λ k. refl) (λ k st. gone_same party st) refl old.listeners;
      notifiers = notifiers_kept x (events_abandoned x party) (λ k. gone_with party) (λ k. refl) (λ k st. (gone_same party st).event) refl old.notifiers;
      apart = λ p q e. none_other x.session.doing party p (h.apart p q e);
      asked = h.asked;
      unheld = h.unheld;
      formed = λ m st e. (
          let w = each_was (gone_with party) (x.session.stands m) st e in
          subst (λ (s : StandingEvent). IsFormedEvent (n + 1) s.event) (sym w.is) (same_formed n w.old.event (gone_with party w.old).event (gone_same party w.old).event (old.formed m w.old w.was)));
      made = (let l = old.made in omega arith);
      taken = (let l = old.taken in omega arith);
    }

-- what goes on of a call
went_first : (r : RunningCall) (e : Event) (a : EventAccess) (b : EventAnswer) (f : RunningCall) → went_on r e a b ≡ Some f → f.first ≡ r.first
went_first r e a b f h =
    elim (if_cases (is_last (turn (call_of r) b).0) None _ (Some f) h) [
      | inl is ↦ absurd (none_some f is.1)
      | inr is ↦ ap (λ (z : RunningCall). z.first) (sym (some_same _ f is.1))
    ]

doing_is : (n : ℕ) (o : Option RunningCall) (d : PartyCall) → doing_on n o ≡ Some d → (d.on ≡ n) × (o ≡ Some d.call)
doing_is n None d h = absurd (none_some d h)
doing_is n (Some r) d h = let e = some_same _ d h in (ap (λ (z : PartyCall). z.on) (sym e), ap (λ (z : PartyCall). Some z.call) e)

-- an access of a party's call
pub call_stepped : (x : ScriptEvents) (n : ℕ) (party : List ℕ) (a : EventAccess) (b : EventAnswer) (d : PartyCall) (st : StandingEvent) → x.session.doing party ≡ Some d → x.session.stands d.on ≡ Some st → a ≡ owed (call_of d.call) → IsRight st.event a b → AreSoundEvents x n → AreSoundEvents (record x { session = next_session x.session (step_of party a b) }) (n + 1)
call_stepped x n party a b d st runs stands owes right h =
    let is : next_session x.session (step_of party a b) ≡ took_step x.session party a b d (Some st.event) = ap (stepped_on x.session party a b) runs ∙ ap (λ (o : Option StandingEvent). took_step x.session party a b d (event_in o)) stands in
    let takes : MayTake x.session a b d = subst (λ (o : Option StandingEvent). IsSomeAnd o (λ s. (a ≡ owed (call_of d.call)) × IsRight s.event a b)) (sym stands) (owes, right) in
    let ok : IsEventLine x.session (step_of party a b) = subst (λ (o : Option PartyCall). IsSomeAnd o (MayTake x.session a b)) (sym runs) takes in
    subst (λ (s : EventSession). AreSoundEvents (record x { session = s }) (n + 1)) (sym is) (record {
      session = more_of x _ (step_of party a b) h.session ok (sym is);
      numbered = λ m s e. (let w = each_was (one_changed d.on (λ y. after y a) m) (x.session.stands m) s e in h.numbered m w.old w.was);
      things = λ p m t e. thing_kept x (record x { session = took_step x.session party a b d (Some st.event) }) (one_changed d.on (λ y. after y a)) (λ k. refl) (λ k q s l. same_listening q s _ (changed_same d.on k (λ y. after y a) s (λ y. after_same y a)) l) p t (h.things p m t e);
      single = h.single;
      calls = λ p f e. elim (put_cases x.session.doing party (doing_on d.on (went_on d.call st.event a b)) p (Some f) e) [
        | inl w ↦ (
            let at = doing_is d.on (went_on d.call st.event a b) f w.1 in
            held_call x _ p d f at.0 (went_first d.call st.event a b f.call at.1) (λ m t g. g) (h.calls p d (ap x.session.doing w.0 ∙ runs)))
        | inr w ↦ held_call x _ p f f refl refl (λ m t g. g) (h.calls p f w.1)
      ];
      names = λ k text m e. each_event (IsNamed k text) (IsNamed k text) (one_changed d.on (λ y. after y a) m) (x.session.stands m) (λ s l. same_named k text s.event _ (changed_same d.on m (λ y. after y a) s (λ y. after_same y a)).event l) (h.names k text m e);
      holders = holders_kept x (record x { session = took_step x.session party a b d (Some st.event) }) (one_changed d.on (λ y. after y a)) (λ k. refl) (λ k s. (changed_same d.on k (λ y. after y a) s (λ y. after_same y a)).event) refl h.holders;
      listeners = listeners_kept x (record x { session = took_step x.session party a b d (Some st.event) }) (one_changed d.on (λ y. after y a)) (λ k. refl) (λ k s. changed_same d.on k (λ y. after y a) s (λ y. after_same y a)) refl h.listeners;
      notifiers = notifiers_kept x (record x { session = took_step x.session party a b d (Some st.event) }) (one_changed d.on (λ y. after y a)) (λ k. refl) (λ k s. (changed_same d.on k (λ y. after y a) s (λ y. after_same y a)).event) refl h.notifiers;
      apart = λ p q e. put_other x.session.doing party _ p (λ same. none_some d (sym (h.apart p q e) ∙ ap x.session.doing same ∙ runs)) ∙ h.apart p q e;
      asked = h.asked;
      unheld = h.unheld;
      formed = λ m s e. (
          let w = each_was (one_changed d.on (λ y. after y a) m) (x.session.stands m) s e in
          subst (λ (z : StandingEvent). IsFormedEvent (n + 1) z.event) (sym w.is) (same_formed n w.old.event _ (changed_same d.on m (λ y. after y a) w.old (λ y. after_same y a)).event (h.formed m w.old w.was)));
      made = (let l = h.made in omega arith);
      taken = (let l = h.taken in omega arith);
    })
