-- The table of events after each of its calls, number by number and name by name.
use Rattle.std.specs.Prelude.{◌≡◌, ℕ, ◌+◌, ◌==◌, Bool, true, false, cond, if◌then◌else◌, List, Option, Some, None, IsSome, refl}
use Rattle.std.proofs.Common.{ap, ◌∙◌, inl, inr, subst}
use Rattle.std.specs.Ordering.{nat_cmp}
use Rattle.std.specs.Cmp.Lexicographic.{slice_cmp, nat_list_cmp_total}
use Rattle.std.specs.Map.{lookup}
use Rattle.std.specs.BTreeMap.{is_at}
use Rattle.std.specs.Str.{bytes_eq}
use Rattle.std.proofs.lemmas.Cmp.{eq_by_cmp_equiv, nat_cmp_total}
use Rattle.std.proofs.lemmas.Map.{lookup-set_value}
use Rattle.std.proofs.lemmas.Map.Lookups.{exact_unsigned, exact_bytes}
use Rattle.board_names.specs.Table.{at, putting, without}
use Rattle.board_event_model.specs.declared.kind.EventKind.{EventKind}
use Rattle.board_event_model.specs.declared.kind.EventKind.TheVariants as kind
use Rattle.board_event_model.specs.EventMemory.{Event, holds_name, has_holder, new_event}
use Rattle.board_event_core.specs.EventTable.{EventTable, changed, event_at, table_listened, named_with, names_of, settled, settled_with, with_event, with_names, without_event, without_name_of}
use Rattle.script_model.specs.ScriptEvents.{names_left, name_held, without_name}
use Rattle.board_event_model.proofs.QuietLemmas.{eqb_true}
use Rattle.script_events.specs.PartyEvents.{AreOnce, IsOnce}
use Rattle.script_events.proofs.Options.{either}
use Rattle.script_events.proofs.Tables.{at_name, at_number, lookup-put, lookup-removed, once-put, once-remove, once-set}

-- no name stands twice
abbrev IsOnceNames : List (List ℕ × ℕ) → Type 0
IsOnceNames names = AreOnce (slice_cmp nat_cmp) names

-- the event under a number
abbrev found_in : List (ℕ × Event) → ℕ → Option Event
found_in es q = lookup (is_at (nat_cmp q)) es

-- the names of events that a table has
abbrev pub HasNames : EventTable → (EventKind → List ℕ → Option ℕ) → Type 0
HasNames t names = (k : EventKind) (text : List ℕ) → at (names_of k t) text ≡ names k text

-- ---- one event changes

-- only event n is another
pub record IsChange (t u : EventTable) (n : ℕ) (e : Event) : Type 0 where
  pub events : (q : ℕ) → event_at u q ≡ (if q == n then Some e else event_at t q)
  pub names : (k : EventKind) → names_of k u ≡ names_of k t
  pub drawn : u.drawn ≡ t.drawn
  pub once : IsOnce u

names_of-with_event : (t : EventTable) (n : ℕ) (e : Event) (k : EventKind) → names_of k (with_event t n e) ≡ names_of k t
names_of-with_event t n e kind.Bits = refl
names_of-with_event t n e kind.Queue = refl

with_events : (t : EventTable) (n : ℕ) (e next : Event) → event_at t n ≡ Some e → (q : ℕ) → event_at (with_event t n next) q ≡ (if q == n then Some next else event_at t q)
with_events t n e next here q = (let found : IsSome (event_at t n) = rw here refl in
    lookup-set_value (eq_by_cmp_equiv nat_cmp_total) (is_at (nat_cmp n)) ((eq_by_cmp_equiv nat_cmp_total).congr n) q next t.events found
    ∙ ap (λ (b : Bool). cond b (Some next) (event_at t q)) (at_number n q))

-- the event under each number
pub changed_events : (t u : EventTable) (n : ℕ) (e : Event) (f : Event → Event) → event_at t n ≡ Some e → u ≡ changed t n f → (q : ℕ) → event_at u q ≡ (if q == n then Some (f e) else event_at t q)
changed_events t u n e f here is q = (let with_it : u ≡ with_event t n (f e) = (rw (here, changed) at is) in rw with_it (with_events t n e (f e) here q))

change_with : (t : EventTable) (n : ℕ) (e next : Event) → IsOnce t → event_at t n ≡ Some e → IsChange t (with_event t n next) n next
change_with t n e next once here = record {
  events = with_events t n e next here;
  names = names_of-with_event t n next;
  drawn = refl;
  once = record {
    events = once-set nat_cmp (is_at (nat_cmp n)) next t.events once.events;
    names = λ k. rw (names_of-with_event t n next k) (once.names k);
  };
}

pub change : (t u : EventTable) (n : ℕ) (e : Event) (f : Event → Event) → IsOnce t → event_at t n ≡ Some e → u ≡ changed t n f → IsChange t u n (f e)
change t u n e f once here is = (let with_it : u ≡ with_event t n (f e) = (rw (here, changed) at is) in rw with_it (change_with t n e (f e) once here))

-- ---- a new event

-- event n is new, and holds its name
pub record IsListened (t u : EventTable) (k : EventKind) (name : List ℕ) (max : ℕ) : Type 0 where
  pub events : (q : ℕ) → event_at u q ≡ (if q == t.drawn + 1 then Some (new_event k name max) else event_at t q)
  pub names : (names : EventKind → List ℕ → Option ℕ) → HasNames t names → HasNames u (name_held names k name (Some (t.drawn + 1)))
  pub drawn : u.drawn ≡ t.drawn + 1
  pub once : IsOnce u

put_name : (names : List (List ℕ × ℕ)) (name : List ℕ) (n : ℕ) (text : List ℕ) → at (putting names name n) text ≡ (if bytes_eq text name then Some n else at names text)
put_name names name n text = lookup-put (slice_cmp nat_cmp) nat_list_cmp_total exact_bytes names name n text ∙ ap (λ (b : Bool). cond b (Some n) (at names text)) (at_name name text)

put_names : (t : EventTable) (k : EventKind) (name : List ℕ) (max : ℕ) (held : EventKind → List ℕ → Option ℕ) → HasNames t held → HasNames (table_listened t k name max) (name_held held k name (Some (t.drawn + 1)))
put_names t kind.Bits name max held has kind.Bits text = put_name t.bits name (t.drawn + 1) text ∙ ap (λ (x : Option ℕ). if bytes_eq text name then Some (t.drawn + 1) else x) (has kind.Bits text)
put_names t kind.Bits name max held has kind.Queue text = has kind.Queue text
put_names t kind.Queue name max held has kind.Bits text = has kind.Bits text
put_names t kind.Queue name max held has kind.Queue text = put_name t.queues name (t.drawn + 1) text ∙ ap (λ (x : Option ℕ). if bytes_eq text name then Some (t.drawn + 1) else x) (has kind.Queue text)

put_once : (t : EventTable) (k : EventKind) (name : List ℕ) (max : ℕ) → IsOnce t → at (names_of k t) name ≡ None → (j : EventKind) → IsOnceNames (names_of j (table_listened t k name max))
put_once t kind.Bits name max once none kind.Bits = once-put (slice_cmp nat_cmp) nat_list_cmp_total exact_bytes t.bits name (t.drawn + 1) none (once.names kind.Bits)
put_once t kind.Bits name max once none kind.Queue = once.names kind.Queue
put_once t kind.Queue name max once none kind.Bits = once.names kind.Bits
put_once t kind.Queue name max once none kind.Queue = once-put (slice_cmp nat_cmp) nat_list_cmp_total exact_bytes t.queues name (t.drawn + 1) none (once.names kind.Queue)

pub listening : (t : EventTable) (k : EventKind) (name : List ℕ) (max : ℕ) → IsOnce t → event_at t (t.drawn + 1) ≡ None → at (names_of k t) name ≡ None → IsListened t (table_listened t k name max) k name max
listening t k name max once free unheld = record {
  events = λ q. lookup-put nat_cmp nat_cmp_total exact_unsigned t.events (t.drawn + 1) (new_event k name max) q ∙ ap (λ (b : Bool). cond b (Some (new_event k name max)) (event_at t q)) (at_number (t.drawn + 1) q);
  names = put_names t k name max;
  drawn = refl;
  once = record {
    events = once-put nat_cmp nat_cmp_total exact_unsigned t.events (t.drawn + 1) (new_event k name max) free once.events;
    names = put_once t k name max once unheld;
  };
}

-- ---- a holder was let go

-- an event that nobody holds is none
pub record IsSettled (s u : EventTable) (n : ℕ) (e : Event) : Type 0 where
  pub events : (q : ℕ) → event_at u q ≡ (if q == n then (if has_holder e then Some e else None) else event_at s q)
  pub names : (names : EventKind → List ℕ → Option ℕ) → HasNames s names → HasNames u (names_left names n e)
  pub drawn : u.drawn ≡ s.drawn
  pub once : IsOnce u

-- the names of a kind without one
without_one : (names : List (List ℕ × ℕ)) (name text : List ℕ) → IsOnceNames names → at (without names name) text ≡ (if bytes_eq text name then None else at names text)
without_one names name text once = lookup-removed (slice_cmp nat_cmp) nat_list_cmp_total exact_bytes name text names once ∙ ap (λ (b : Bool). cond b None (at names text)) (at_name name text)

-- one kind's names go, and the events stay
without_kind : (s : EventTable) (k : EventKind) (name : List ℕ) (names : EventKind → List ℕ → Option ℕ) → IsOnce s → HasNames s names → HasNames (with_names k s (without (names_of k s) name)) (name_held names k name None)
without_kind s kind.Bits name names once has kind.Bits text = without_one s.bits name text (once.names kind.Bits) ∙ ap (λ (x : Option ℕ). if bytes_eq text name then None else x) (has kind.Bits text)
without_kind s kind.Bits name names once has kind.Queue text = has kind.Queue text
without_kind s kind.Queue name names once has kind.Bits text = has kind.Bits text
without_kind s kind.Queue name names once has kind.Queue text = without_one s.queues name text (once.names kind.Queue) ∙ ap (λ (x : Option ℕ). if bytes_eq text name then None else x) (has kind.Queue text)

once_kind : (s : EventTable) (k : EventKind) (names : List (List ℕ × ℕ)) → IsOnceNames names → IsOnce s → IsOnce (with_names k s names)
once_kind s kind.Bits names fresh once = record { events = once.events; names = kinds }
  where
    kinds : (j : EventKind) → IsOnceNames (names_of j (with_names kind.Bits s names))
    kinds kind.Bits = fresh
    kinds kind.Queue = once.names kind.Queue
once_kind s kind.Queue names fresh once = record { events = once.events; names = kinds }
  where
    kinds : (j : EventKind) → IsOnceNames (names_of j (with_names kind.Queue s names))
    kinds kind.Bits = once.names kind.Bits
    kinds kind.Queue = fresh

same_names : (s : EventTable) (k : EventKind) → with_names k s (names_of k s) ≡ s
same_names s kind.Bits = refl
same_names s kind.Queue = refl

-- the name of an event goes, where the event holds it
pub record IsNamed (s u : EventTable) (n : ℕ) (e : Event) : Type 0 where
  pub events : u.events ≡ s.events
  pub names : (names : EventKind → List ℕ → Option ℕ) → HasNames s names → HasNames u (names_left names n e)
  pub drawn : u.drawn ≡ s.drawn
  pub once : IsOnce u

events_with : (s : EventTable) (k : EventKind) (names : List (List ℕ × ℕ)) → (with_names k s names).events ≡ s.events
events_with s kind.Bits names = refl
events_with s kind.Queue names = refl

drawn_with : (s : EventTable) (k : EventKind) (names : List (List ℕ × ℕ)) → (with_names k s names).drawn ≡ s.drawn
drawn_with s kind.Bits names = refl
drawn_with s kind.Queue names = refl

freed_as : (s : EventTable) (n : ℕ) (e : Event) (names : EventKind → List ℕ → Option ℕ) → IsOnce s → HasNames s names → (o : Option ℕ) → at (names_of e.kind s) e.name ≡ o →
    HasNames (with_names e.kind s (elim o [ None ↦ names_of e.kind s | Some m ↦ if m == n then without (names_of e.kind s) e.name else names_of e.kind s ])) (without_name names n e o)
freed_as s n e names once has None is = rw (same_names s e.kind) has
freed_as s n e names once has (Some m) is = elim (either (m == n)) [
  | inl f ↦ rw f (without_kind s e.kind e.name names once has)
  | inr f ↦ rw f (rw (same_names s e.kind) has)
]

once_freed : (names : List (List ℕ × ℕ)) (name : List ℕ) (n : ℕ) → IsOnceNames names → (o : Option ℕ) → IsOnceNames (elim o [ None ↦ names | Some m ↦ if m == n then without names name else names ])
once_freed names name n once None = once
once_freed names name n once (Some m) = elim (either (m == n)) [
  | inl f ↦ rw f (once-remove (slice_cmp nat_cmp) (is_at (slice_cmp nat_cmp name)) names once)
  | inr f ↦ rw f once
]

naming : (s : EventTable) (n : ℕ) (e : Event) → IsOnce s → (b : Bool) → holds_name e ≡ b → IsNamed s (if b then s else without_name_of s n e) n e
naming s n e once true f = record { events = refl; names = λ names has k text. rw f (has k text); drawn = refl; once = once }
naming s n e once false f = record {
  events = events_with s e.kind _;
  names = λ names has k text. rw f (subst (λ (o : Option ℕ). HasNames (without_name_of s n e) (without_name names n e o)) (has e.kind e.name) (freed_as s n e names once has (at (names_of e.kind s) e.name) refl) k text);
  drawn = drawn_with s e.kind _;
  once = once_kind s e.kind _ (once_freed (names_of e.kind s) e.name n (once.names e.kind) (at (names_of e.kind s) e.name)) once;
}

names_without : (u : EventTable) (n : ℕ) (k : EventKind) → names_of k (without_event u n) ≡ names_of k u
names_without u n kind.Bits = refl
names_without u n kind.Queue = refl

same_at : (s u : EventTable) (n : ℕ) (e : Event) → IsNamed s u n e → (q : ℕ) → event_at u q ≡ event_at s q
same_at s u n e named q = ap (λ (es : List (ℕ × Event)). found_in es q) named.events

own_at : (s : EventTable) (n : ℕ) (e : Event) → event_at s n ≡ Some e → (q : ℕ) → event_at s q ≡ (if q == n then Some e else event_at s q)
own_at s n e here q = elim (either (q == n)) [
  | inl f ↦ rw f (rw (eqb_true q n f) here)
  | inr f ↦ rw f refl
]

settle_with : (s u : EventTable) (n : ℕ) (e : Event) → event_at s n ≡ Some e → IsNamed s u n e → (b : Bool) → has_holder e ≡ b → IsSettled s (if b then u else without_event u n) n e
settle_with s u n e here named true f = record {
  events = λ q. rw f (same_at s u n e named q ∙ own_at s n e here q);
  names = named.names;
  drawn = named.drawn;
  once = named.once;
}
settle_with s u n e here named false f = record {
  events = λ q. rw f (lookup-removed nat_cmp nat_cmp_total exact_unsigned n q u.events named.once.events ∙ ap (λ (b : Bool). cond b None (event_at u q)) (at_number n q)
      ∙ ap (λ (o : Option Event). if q == n then None else o) (same_at s u n e named q));
  names = λ names has k text. rw (names_without u n k) (named.names names has k text);
  drawn = named.drawn;
  once = record {
    events = once-remove nat_cmp (is_at (nat_cmp n)) u.events named.once.events;
    names = λ k. rw (names_without u n k) (named.once.names k);
  };
}

pub settle : (s u : EventTable) (n : ℕ) (e : Event) → IsOnce s → event_at s n ≡ Some e → u ≡ settled s n → IsSettled s u n e
settle s u n e once here is = (let with_it : u ≡ settled_with s n e = (rw (here, settled) at is) in rw with_it (settle_with s (named_with s n e) n e here (naming s n e once (holds_name e) refl) (has_holder e) refl))
