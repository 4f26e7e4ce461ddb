-- What parties hold after one was abandoned: the same, and its listeners count as gone.
use Rattle.std.proofs.Common.{◌≡◌, ℕ, Bool, true, false, List, [], ◌∷◌, refl, sym, ap, subst, ◌∙◌, Option, Some, None, inl, inr, ◌⊎◌}
use Rattle.std.specs.Prelude.{if◌then◌else◌, ◌==◌, ◌&&◌, ◌||◌, option_map, IfSome, IsSome}
use Rattle.std.specs.Str.{bytes_eq}
use Rattle.std.specs.HashMap.{IsUnique, get, values}
use Rattle.std.specs.List.{AllByRecursion, IsDistinct, list_any}
use Rattle.std.specs.Map.{keys_of, lookup, values_of}
use Rattle.std.proofs.lemmas.Bool.{and_parts}
use Rattle.std.proofs.lemmas.Map.Keys.{IsDistinct-head, IsDistinct-tail}
use Rattle.board_model.proofs.ListLemmas.{same_bytes}
use Rattle.board_model.proofs.ThingLemmas.{same_to_itself}
use Rattle.board_model.specs.Requests.{and_then}
use Rattle.board_names.specs.Table.{at}
use Rattle.board_event_model.specs.declared.kind.EventKind.{EventKind}
use Rattle.board_event_model.specs.EventMemory.{Event, has_holder}
use Rattle.board_event_model.specs.EventSessions.{StandingEvent, event_of, gone_with}
use Rattle.board_event_model.proofs.QuietLemmas.{eqb_self, eqb_true}
use Rattle.board_event_model.proofs.SoundLemmas.{some_same}
use Rattle.board_event_core.specs.EventTable.{EventTable, changed, event_at, names_of, with_gone}
use Rattle.script_model.specs.ScriptEvents.{ScriptEvents, events_abandoned, listener}
use Rattle.script_model.specs.SoundEvents.{AreSoundEvents}
use Rattle.script_events.specs.declared.things.Things.{Things}
use Rattle.script_events.specs.declared.rows.Holding.{Holding}
use Rattle.script_events.specs.declared.rows.Holding.TheVariants as holding
use Rattle.script_events.specs.Calls.{IsMarkable, marked, marked_gone}
use Rattle.script_events.specs.PartyEvents.{Held, Holds, IsOnce, IsUniqueIn, Own, all_in, held_in, named_by, own_in, thing_in, where_held}
use Rattle.script_events.specs.declared.holdings.Holdings.TheVariants as holdings
use Rattle.script_events.proofs.Maps.{OwnMap}
use Rattle.script_events.proofs.Options.{either, turned}
use Rattle.script_events.proofs.TableCalls.{change, changed_events}
use Rattle.script_events.proofs.Holding.{event_of-none, event_of-some, listener_there}

-- ---- what stands in a list

-- it is one of them
abbrev pub IsIn : Holding → List Holding → Type 0
IsIn h [] = ⊥
IsIn h (y ∷ ys) = (h ≡ y) ⊎ IsIn h ys

any_of : (test : Holding → Bool) (h : Holding) (hs : List Holding) → IsIn h hs → test h ≡ true → list_any test hs ≡ true
any_of test h [] i e = absurd i
any_of test h (y ∷ ys) (inl same) e = (let f : test y ≡ true = rw (sym same) e in rw f refl)
any_of test h (y ∷ ys) (inr more) e = elim (either (test y)) [
  | inl f ↦ rw f refl
  | inr f ↦ rw f (any_of test h ys more e)
]

some_of : (test : Holding → Bool) (hs : List Holding) → list_any test hs ≡ true → (h : Holding) × IsIn h hs × (test h ≡ true)
some_of test [] e = absurd cc
some_of test (y ∷ ys) e = elim (either (test y)) [
  | inl f ↦ (y, inl refl, f)
  | inr f ↦ (let more = some_of test ys (rw f at e) in (more.0, inr more.1, more.2))
]

-- ---- what a party holds, as a list

-- each of a map's values stands under a name
abbrev pub AreFound : (List ℕ → Option Holding) → List Holding → Type 0
AreFound found hs = (h : Holding) → IsIn h hs → (name : List ℕ) × (found name ≡ Some h)

-- and what stands under a name is one of them
abbrev pub AreAll : (List ℕ → Option Holding) → List Holding → Type 0
AreAll found hs = (name : List ℕ) (h : Holding) → found name ≡ Some h → IsIn h hs

own_all : (es : List (List ℕ × Holding)) → AreAll (λ name. lookup (bytes_eq name) es) (values_of es)
own_all [] name h e = absurd cc
own_all (x ∷ es) name h e = elim (either (bytes_eq name x.0)) [
  | inl f ↦ (let here : Some x.1 ≡ Some h = (rw f at e) in inl (some_same h x.1 (sym here)))
  | inr f ↦ inr (own_all es name h (rw f at e))
]

apart_names : (k name : List ℕ) (es : List (List ℕ × Holding)) (h : Holding) → AllByRecursion (λ y. bytes_eq k y ≡ false) (keys_of es) → lookup (bytes_eq name) es ≡ Some h → bytes_eq name k ≡ false
apart_names k name [] h all e = absurd cc
apart_names k name (x ∷ es) h all e = elim (either (bytes_eq name x.0)) [
  | inl f ↦ rw (same_bytes name x.0 f) (turned x.0 k ∙ all.0)
  | inr f ↦ apart_names k name es h all.1 (rw f at e)
]

own_found : (es : List (List ℕ × Holding)) → IsDistinct bytes_eq (keys_of es) → AreFound (λ name. lookup (bytes_eq name) es) (values_of es)
own_found [] apart h i = absurd i
own_found (x ∷ es) apart h (inl same) = (x.0, rw (same_to_itself x.0) (ap (λ (y : Holding). Some y) (sym same)))
own_found (x ∷ es) apart h (inr more) = (
    let found = own_found es (IsDistinct-tail bytes_eq x.0 (keys_of es) apart) h more in
    (found.0, rw (apart_names x.0 found.0 es h (IsDistinct-head bytes_eq x.0 (keys_of es) apart) found.1) found.1))

-- what a party holds is what stands under its names
all_listed : (own : Own) → IsUniqueIn own → AreFound (named_by own) (all_in own) × AreAll (named_by own) (all_in own)
all_listed holdings.Nothing unique = ((λ h i. absurd i), (λ name h f. absurd cc))
all_listed (holdings.One held one) unique = (found, all)
  where
    found : AreFound (named_by (holdings.One held one)) (one ∷ [])
    found h (inl same) = (held, rw (same_to_itself held) (ap (λ (y : Holding). Some y) (sym same)))
    found h (inr more) = absurd more

    all : AreAll (named_by (holdings.One held one)) (one ∷ [])
    all name h e = elim (either (bytes_eq held name)) [
      | inl f ↦ (let here : Some one ≡ Some h = (rw f at e) in inl (some_same h one (sym here)))
      | inr f ↦ absurd (let no : None ≡ Some h = (rw f at e) in cc)
    ]
all_listed (holdings.Many all) unique = (own_found all.value.entries unique, own_all all.value.entries)

module _ (things : Things) (party : List ℕ) where
  -- what a party holds that holds something
  pub own_listed : (own : Own) → own_in things party ≡ Some own → IsUniqueIn own → AreFound (held_in things party) (all_in own) × AreAll (held_in things party) (all_in own)
  own_listed own e unique = subst (λ (o : Option Own). AreFound (λ name. and_then o (λ w. named_by w name)) (all_in own) × AreAll (λ name. and_then o (λ w. named_by w name)) (all_in own)) (sym e) (all_listed own unique)

  -- and one that holds nothing
  pub none_listed : own_in things party ≡ None → AreFound (held_in things party) [] × AreAll (held_in things party) []
  none_listed e = ((λ h i. absurd i), (λ name h f. absurd (let none : held_in things party name ≡ None = ap (λ (o : Option Own). and_then o (λ w. named_by w name)) e in let no : None ≡ Some h = sym none ∙ f in cc)))

  pub own_held : (own : Own) → own_in things party ≡ Some own → (P : Holding → Type 0) → ((name : List ℕ) → IfSome (held_in things party name) P) → (name : List ℕ) → IfSome (named_by own name) P
  own_held own e P each name = subst (λ (o : Option Own). IfSome (and_then o (λ w. named_by w name)) P) e (each name)

all_by : (P : Holding → Type 0) (hs : List Holding) → ((h : Holding) → IsIn h hs → P h) → AllByRecursion P hs
all_by P [] each = tt
all_by P (h ∷ hs) each = (each h (inl refl), all_by P hs (λ y more. each y (inr more)))

-- what holds of each that stands under a name holds of all values
pub all_values : (own : OwnMap) (P : Holding → Type 0) → IsUnique bytes_eq own → ((name : List ℕ) → IfSome (get bytes_eq own name) P) → AllByRecursion P (values own)
all_values own P unique each = all_by P (values own) (λ h i. (let found = own_found own.entries unique h i in subst (λ (o : Option Holding). IfSome o P) found.1 (each found.0)))

-- ---- the table after the marks

-- it is a listener of the event
abbrev listens_on : ℕ → Holding → Bool
listens_on q (holding.Listener n) = q == n
listens_on q (holding.Notifier n) = false

-- an event that may count as gone
abbrev gone_if : Bool → Option Event → Option Event
gone_if b None = None
gone_if b (Some e) = Some (if b then with_gone e else e)

record IsMarked (hs : List Holding) (t u : EventTable) : Type 0 where
  events : (q : ℕ) → event_at u q ≡ gone_if (list_any (listens_on q) hs) (event_at t q)
  names : (k : EventKind) → names_of k u ≡ names_of k t
  drawn : u.drawn ≡ t.drawn
  once : IsOnce u

not_marked : (o : Option Event) → o ≡ gone_if false o
not_marked None = refl
not_marked (Some e) = refl

twice_marked : (b : Bool) (o : Option Event) → gone_if b (gone_if true o) ≡ gone_if true o
twice_marked b None = refl
twice_marked true (Some e) = refl
twice_marked false (Some e) = refl

-- one mark
mark_one : (t : EventTable) (n q : ℕ) → event_at (changed t n with_gone) q ≡ gone_if (q == n) (event_at t q)
mark_one t n q = by (event_at t n) refl
  where
    by : (o : Option Event) → event_at t n ≡ o → event_at (changed t n with_gone) q ≡ gone_if (q == n) (event_at t q)
    by None h = rw (h, changed) (elim (either (q == n)) [
      | inl f ↦ rw (f, eqb_true q n f, h) refl
      | inr f ↦ rw f (not_marked (event_at t q))
    ])
    by (Some e) h = changed_events t (changed t n with_gone) n e with_gone h refl q ∙ elim (either (q == n)) as (λ _. (if q == n then Some (with_gone e) else event_at t q) ≡ gone_if (q == n) (event_at t q)) [
      | inl f ↦ rw (f, eqb_true q n f, h) refl
      | inr f ↦ rw f (not_marked (event_at t q))
    ]

names_one : (t : EventTable) (n : ℕ) (k : EventKind) → IsOnce t → names_of k (changed t n with_gone) ≡ names_of k t
names_one t n k once = by (event_at t n) refl
  where
    by : (o : Option Event) → event_at t n ≡ o → names_of k (changed t n with_gone) ≡ names_of k t
    by None h = rw (h, changed) refl
    by (Some e) h = (change t (changed t n with_gone) n e with_gone once h refl).names k

drawn_one : (t : EventTable) (n : ℕ) → IsOnce t → (changed t n with_gone).drawn ≡ t.drawn
drawn_one t n once = by (event_at t n) refl
  where
    by : (o : Option Event) → event_at t n ≡ o → (changed t n with_gone).drawn ≡ t.drawn
    by None h = rw (h, changed) refl
    by (Some e) h = (change t (changed t n with_gone) n e with_gone once h refl).drawn

once_one : (t : EventTable) (n : ℕ) → IsOnce t → IsOnce (changed t n with_gone)
once_one t n once = by (event_at t n) refl
  where
    by : (o : Option Event) → event_at t n ≡ o → IsOnce (changed t n with_gone)
    by None h = rw (h, changed) once
    by (Some e) h = (change t (changed t n with_gone) n e with_gone once h refl).once

kept_some : (b : Bool) (o : Option Event) → IsSome o → IsSome (gone_if b o)
kept_some b None h = h
kept_some b (Some e) h = refl

-- what can be marked still can after a mark
still_one : (t : EventTable) (h other : Holding) → IsMarkable t other → IsMarkable (marked h t) other
still_one t (holding.Notifier n) other can = can
still_one t (holding.Listener n) (holding.Notifier m) can = can
still_one t (holding.Listener n) (holding.Listener m) can = (let e : event_at (changed t n with_gone) m ≡ gone_if (m == n) (event_at t m) = mark_one t n m in rw e (kept_some (m == n) (event_at t m) can))

pub still_markable : (t : EventTable) (h : Holding) (hs : List Holding) → AllByRecursion (IsMarkable t) hs → AllByRecursion (IsMarkable (marked h t)) hs
still_markable t h [] all = tt
still_markable t h (y ∷ ys) all = (still_one t h y all.0, still_markable t h ys all.1)

marks : (hs : List Holding) (t : EventTable) → IsOnce t → IsMarked hs t (marked_gone hs t)
marks [] t once = record { events = λ q. not_marked (event_at t q); names = λ k. refl; drawn = refl; once = once }
marks (holding.Notifier n ∷ hs) t once = (let more = marks hs t once in record { events = more.events; names = more.names; drawn = more.drawn; once = more.once })
marks (holding.Listener n ∷ hs) t once = (let more = marks hs (changed t n with_gone) (once_one t n once) in record {
  events = λ q. more.events q ∙ ap (gone_if (list_any (listens_on q) hs)) (mark_one t n q) ∙ own q;
  names = λ k. more.names k ∙ names_one t n k once;
  drawn = more.drawn ∙ drawn_one t n once;
  once = more.once;
})
  where
    own : (q : ℕ) → gone_if (list_any (listens_on q) hs) (gone_if (q == n) (event_at t q)) ≡ gone_if (list_any (listens_on q) (holding.Listener n ∷ hs)) (event_at t q)
    own q = elim (either (q == n)) [
      | inl g ↦ rw g (twice_marked (list_any (listens_on q) hs) (event_at t q))
      | inr g ↦ rw g (ap (gone_if (list_any (listens_on q) hs)) (sym (not_marked (event_at t q))))
    ]

-- ---- whose events are marked

a_listener : (q : ℕ) (h : Holding) → listens_on q h ≡ true → h ≡ holding.Listener q
a_listener q (holding.Listener n) e = ap holding.Listener (sym (eqb_true q n e))
a_listener q (holding.Notifier n) e = absurd cc

is_listener : (q : ℕ) (o : Option Holding) → option_map thing_in o ≡ Some (listener q) → o ≡ Some (holding.Listener q)
is_listener q None e = absurd cc
is_listener q (Some (holding.Listener n)) e = (let same : n ≡ q = cc in ap (λ (m : ℕ). Some (holding.Listener m)) same)
is_listener q (Some (holding.Notifier n)) e = absurd cc

module _ (t : EventTable) (held : Held) (x : ScriptEvents) (count : ℕ) (sound : AreSoundEvents x count) (holds : Holds t held x) (party : List ℕ) where
  says : (name : List ℕ) (n : ℕ) → held party name ≡ Some (holding.Listener n) → x.things party name ≡ Some (listener n)
  says name n e = sym (holds.things party name) ∙ ap (option_map thing_in) e

  -- the events of the party's listeners stand
  pub markable : (name : List ℕ) → IfSome (held party name) (IsMarkable t)
  markable name = by (held party name) refl
    where
      by : (o : Option Holding) → held party name ≡ o → IfSome o (IsMarkable t)
      by None e = tt
      by (Some (holding.Notifier n)) e = tt
      by (Some (holding.Listener n)) e = rw (listener_there t held x count sound holds party name n (says name n e)).0.found refl

  module _ (hs : List Holding) (each : AreFound (held party) hs) (all : AreAll (held party) hs) where
    -- they are those of the events that the party listens on
    whose : (q : ℕ) (st : StandingEvent) → x.session.stands q ≡ Some st → list_any (listens_on q) hs ≡ (st.event.held && bytes_eq party st.listener)
    whose q st stands = by (list_any (listens_on q) hs) refl (st.event.held && bytes_eq party st.listener) refl
      where
        by : (a : Bool) → list_any (listens_on q) hs ≡ a → (b : Bool) → (st.event.held && bytes_eq party st.listener) ≡ b → a ≡ b
        by true e true f = refl
        by false e false f = refl
        by true e false f = (
            let found = some_of (listens_on q) hs e in
            let named = each found.0 found.1 in
            let is : held party named.0 ≡ Some (holding.Listener q) = named.1 ∙ ap (λ (h : Holding). Some h) (a_listener q found.0 found.2) in
            let mine = listener_there t held x count sound holds party named.0 q (says named.0 q is) in
            let same : mine.0.st ≡ st = some_same mine.0.st st (sym mine.0.stands ∙ stands) in
            let listens : st.event.held ≡ true = subst (λ (v : StandingEvent). v.event.held ≡ true) same mine.1.held in
            let owner : st.listener ≡ party = subst (λ (v : StandingEvent). v.listener ≡ party) same mine.1.owner in
            let yes : (st.event.held && bytes_eq party st.listener) ≡ true = rw (listens, owner, same_to_itself party) refl in
            sym yes ∙ f)
        by false e true f = (
            let both = and_parts st.event.held (bytes_eq party st.listener) f in
            let named = sound.listeners q st stands both.0 in
            let mine : x.things party named.0 ≡ Some (listener q) = subst (λ (p : List ℕ). x.things p named.0 ≡ Some (listener q)) (sym (same_bytes party st.listener both.1)) named.1 in
            let is : held party named.0 ≡ Some (holding.Listener q) = is_listener q (held party named.0) (holds.things party named.0 ∙ mine) in
            let yes : list_any (listens_on q) hs ≡ true = any_of (listens_on q) (holding.Listener q) hs (all named.0 (holding.Listener q) is) (eqb_self q) in
            sym e ∙ yes)

    abbrev after : ScriptEvents
    after = events_abandoned x party

    gone_same : (e : Event) (b : Bool) → where_held (Some (record e { gone = e.gone || b })) ≡ gone_if b (where_held (Some e))
    gone_same e b = elim (either (has_holder e)) [
      | inl f ↦ rw f (mark b)
      | inr f ↦ rw f refl
    ]
      where
        or_true : (a : Bool) → (a || true) ≡ true
        or_true true = refl
        or_true false = refl

        or_false : (a : Bool) → (a || false) ≡ a
        or_false true = refl
        or_false false = refl

        mark : (b : Bool) → Some (record e { gone = e.gone || b }) ≡ Some (if b then with_gone e else e)
        mark true = ap (λ (g : Bool). Some (record e { gone = g })) (or_true e.gone)
        mark false = ap (λ (g : Bool). Some (record e { gone = g })) (or_false e.gone)

    stood : (q : ℕ) (o : Option StandingEvent) → x.session.stands q ≡ o → event_of after.session.stands q ≡ elim o as (λ _. Option Event) [ None ↦ None | Some st ↦ Some (gone_with party st).event ]
    stood q None e = rw (event_of, e) refl
    stood q (Some st) e = rw (event_of, e) refl

    events_after : (u : EventTable) → IsMarked hs t u → (q : ℕ) → event_at u q ≡ where_held (event_of after.session.stands q)
    events_after u m q = by (x.session.stands q) refl
      where
        by : (o : Option StandingEvent) → x.session.stands q ≡ o → event_at u q ≡ where_held (event_of after.session.stands q)
        by None e = m.events q ∙ ap (gone_if (list_any (listens_on q) hs)) (holds.events q ∙ ap where_held (event_of-none x.session.stands q e)) ∙ ap where_held (sym (stood q None e))
        by (Some st) e = m.events q ∙ ap (gone_if (list_any (listens_on q) hs)) (holds.events q ∙ ap where_held (event_of-some x.session.stands q st e))
            ∙ ap (λ (b : Bool). gone_if b (where_held (Some st.event))) (whose q st e) ∙ sym (gone_same st.event (st.event.held && bytes_eq party st.listener)) ∙ ap where_held (sym (stood q (Some st) e))

    pub abandoned : (u : EventTable) → u ≡ marked_gone hs t → Holds u held after
    abandoned u is =
        let m : IsMarked hs t u = subst (λ (v : EventTable). IsMarked hs t v) (sym is) (marks hs t holds.once) in
        record {
          once = m.once;
          events = events_after u m;
          drawn = m.drawn ∙ holds.drawn;
          names = λ k text. ap (λ (names : List (List ℕ × ℕ)). at names text) (m.names k) ∙ holds.names k text;
          things = holds.things;
        }
