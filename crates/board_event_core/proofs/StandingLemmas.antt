-- What each call on a table keeps.
use Rattle.std.specs.Prelude.{◌≡◌, ◌≤◌, ◌<◌, ◌+◌, ◌-◌, ◌^◌, ℕ, Bool, true, false, cond, not, List, [], ◌∷◌, Option, Some, None, IfSome, IsSome, IsSomeAnd, if◌then◌else◌, ◌||◌, nat_lt, length, ◌++◌, refl}
use Rattle.std.proofs.Common.{ap, arith, sym}
use Rattle.std.specs.declared.cmp.Ordering.{Ordering}
use Rattle.std.specs.declared.cmp.Ordering.TheVariants.{Less, Equal, Greater}
use Rattle.std.specs.Ordering.{nat_cmp, is_eq, match_ordering}
use Rattle.std.specs.Cmp.{Equal-is}
use Rattle.std.specs.Cmp.Lexicographic.{slice_cmp, nat_list_cmp_total}
use Rattle.std.specs.List.{All}
use Rattle.std.specs.Map.{lookup, remove_entry, values_of}
use Rattle.std.specs.BTreeMap.{insert_entry, is_at}
use Rattle.std.specs.Cmp.{IsTotalOrder}
use Rattle.std.proofs.lemmas.Cmp.{eq_by_cmp_equiv, nat_cmp_total}
use Rattle.std.proofs.lemmas.Map.{lookup-set_value}
use Rattle.std.proofs.lemmas.Map.Views.{All-map-remove_entry, All-values-insert_entry, All-values-set_value, IfSome-lookup_from_All}
use Rattle.std.proofs.lemmas.Map.Lookups.{CmpEqualImpliesEq, exact_unsigned, exact_bytes}
use Rattle.board_names.specs.Table.{at, putting}
use Rattle.board_event_model.specs.declared.kind.EventKind.{EventKind}
use Rattle.board_event_model.specs.declared.kind.EventKind.TheVariants as kind
use Rattle.board_event_model.specs.declared.access.EventAccess.{EventAccess}
use Rattle.board_event_model.specs.declared.access.EventAccess.TheVariants as access
use Rattle.board_event_model.specs.EventMemory.{Event, after, has_holder, holds_name, new_event, with_notifier}
use Rattle.board_event_core.specs.EventTable.{AreLeft, DropsEvent, DropsEventOf, EventTable, FreesName, FreesNameOf, freed, HoldsName, IsAttended, IsEvent, IsKept, LosesName, changed, event_at, table_listened, named_with, names_of, settled, settled_with, with_event, with_gone, with_names, without_event, without_name}
use Rattle.board_event_core.proofs.EventLemmas.{IsAttended-new_event, IsEvent-new_event}

-- ---- equal keys

-- numbers that compare as equal are the same
pub same_number : (n m : ℕ) → is_at (nat_cmp n) m ≡ true → n ≡ m
same_number n m e = exact_unsigned n m ((Equal-is (nat_cmp n m)).0 e)

-- and names
pub same_name : (a b : List ℕ) → is_at (slice_cmp nat_cmp a) b ≡ true → a ≡ b
same_name a b e = exact_bytes a b ((Equal-is (slice_cmp nat_cmp a b)).0 e)

-- ---- lists of pairs after one edit

-- what is found where an entry was put in
lookup-put : {K X : Type 0} (cmp : K → K → Ordering) → IsTotalOrder cmp → CmpEqualImpliesEq cmp → (es : List (K × X)) (k : K) (x : X) (q : K) →
    lookup (is_at (cmp q)) (insert_entry cmp es k x) ≡ cond (is_at (cmp k) q) (Some x) (lookup (is_at (cmp q)) es)
lookup-put cmp total exact [] k x q = rw ((eq_by_cmp_equiv total).symm q k) refl
lookup-put {K} {X} cmp total exact (e ∷ es) k x q = by (lookup-put cmp total exact es k x q) (cmp k e.0) refl
  where
    found : Option X
    found = lookup (is_at (cmp q)) es

    twice : (b : Bool) (y z : X) → cond b (Some y) found ≡ cond b (Some y) (cond b (Some z) found)
    twice true y z = refl
    twice false y z = refl

    swapped : (a b : Bool) (y z : X) → (a ≡ true → b ≡ false) → cond a (Some y) (cond b (Some z) found) ≡ cond b (Some z) (cond a (Some y) found)
    swapped true true y z apart = absurd (let other = apart refl in cc other)
    swapped true false y z apart = refl
    swapped false b y z apart = refl

    by : lookup (is_at (cmp q)) (insert_entry cmp es k x) ≡ cond (is_at (cmp k) q) (Some x) found → (r : Ordering) → cmp k e.0 ≡ r → lookup (is_at (cmp q)) (match_ordering r ((k, x) ∷ e ∷ es) ((e.0, x) ∷ es) (e ∷ insert_entry cmp es k x))
        ≡ cond (is_at (cmp k) q) (Some x) (cond (is_at (cmp q) e.0) (Some e.1) found)
    by later Less h = rw ((eq_by_cmp_equiv total).symm q k) refl
    by later Equal h = let same = exact k e.0 h in rw ((eq_by_cmp_equiv total).symm k q) (rw same (twice (is_eq (cmp q e.0)) x e.1))
    by later Greater h = rw later (swapped (is_eq (cmp q e.0)) (is_eq (cmp k q)) e.1 x (λ one. apart one (is_eq (cmp k q)) refl))
      where
        apart : is_eq (cmp q e.0) ≡ true → (b : Bool) → is_eq (cmp k q) ≡ b → b ≡ false
        apart one true both = let first = exact q e.0 ((Equal-is (cmp q e.0)).0 one) in let second = exact k q ((Equal-is (cmp k q)).0 both) in absurd (let differ : is_eq (cmp k e.0) ≡ false = ap is_eq h in let alike : is_eq (cmp k e.0) ≡ true = rw (sym first) both in cc (differ, alike))
        apart one false both = refl

-- what is found where another entry was taken out
lookup-without : {K X : Type 0} (test other : K → Bool) → ((k : K) → test k ≡ true → other k ≡ false) → (es : List (K × X)) → lookup other (remove_entry test es) ≡ lookup other es
lookup-without test other apart [] = refl
lookup-without {K} {X} test other apart (e ∷ es) = by (lookup-without test other apart es) (test e.0) refl
  where
    by : lookup other (remove_entry test es) ≡ lookup other es → (b : Bool) → test e.0 ≡ b → lookup other (cond b es (e ∷ remove_entry test es)) ≡ lookup other (e ∷ es)
    by later true h = rw (apart e.0 h) refl
    by later false h = rw later refl

-- what holds of the new value and of the others holds of what is found
found_by : {X : Type 0} (P : X → Type 0) (b : Bool) (old new : Option X) (w : X) → new ≡ cond b (Some w) old → (b ≡ true → P w) → (b ≡ false → IsSomeAnd old P) → IsSomeAnd new P
found_by P true old new w is hit miss = rw is (hit refl)
found_by P false old new w is hit miss = rw is (miss refl)

-- what holds of the new value and of all others holds of what is found, if anything is
all_by : {X : Type 0} (P : X → Type 0) (b : Bool) (old new : Option X) (w : X) → new ≡ cond b (Some w) old → P w → IfSome old P → IfSome new P
all_by P true old new w is hit miss = rw is hit
all_by P false old new w is hit miss = rw is miss

-- what is found is the new value, or was found before
number_by : {X : Type 0} (G : Type 0) (b : Bool) (old new : Option X) (w : X) → new ≡ cond b (Some w) old → IsSome new → (b ≡ true → G) → (b ≡ false → IsSome old → G) → G
number_by G true old new w is found hit miss = hit refl
number_by G false old new w is found hit miss = miss refl (rw (sym is) found)

-- what is found in a table stands in the same table
pub stands_in : (rows t : EventTable) (n : ℕ) (P : Event → Type 0) → rows ≡ t → IsSomeAnd (event_at t n) P → IsSome (event_at rows n)
stands_in rows t n P same found = rw same (by (event_at t n) found)
  where
    by : (o : Option Event) → IsSomeAnd o P → IsSome o
    by None h = absurd h
    by (Some e) h = refl

-- ---- a change of one event

-- one event is another, and the others stay
event_at-with_event : (t : EventTable) (n : ℕ) (e : Event) (q : ℕ) → IsSome (event_at t n) → event_at (with_event t n e) q ≡ cond (is_at (nat_cmp n) q) (Some e) (event_at t q)
event_at-with_event t n e q found = lookup-set_value (eq_by_cmp_equiv nat_cmp_total) (is_at (nat_cmp n)) ((eq_by_cmp_equiv nat_cmp_total).congr n) q e t.events found

-- names are the same
names_of-with_event : (t : EventTable) (n : ℕ) (e : Event) (k : EventKind) → names_of k (with_event t n e) ≡ names_of k t
names_of-with_event t n e kind.Bits = refl
names_of-with_event t n e kind.Queue = refl

-- an event still holds the names that it held
abbrev pub Keeps : Event → Event → Type 0
Keeps e next = (k : EventKind) (name : List ℕ) → HoldsName k name e → HoldsName k name next

-- one event is another that holds what it held
kept_with : (t : EventTable) (n : ℕ) (e next : Event) → event_at t n ≡ Some e → Keeps e next → IsEvent next → IsAttended next → IsKept t → IsKept (with_event t n next)
kept_with t n e next is keeps good held table = record {
  named = named;
  numbered = numbered;
  sound = All-values-set_value (is_at (nat_cmp n)) IsEvent t.events next table.sound good;
  attended = λ m. all_by IsAttended (is_at (nat_cmp n) m) (event_at t m) _ next (event_at-with_event t n next m found) held (table.attended m);
}
  where
    found : IsSome (event_at t n)
    found = rw is refl

    named : (k : EventKind) (name : List ℕ) (m : ℕ) → at (names_of k (with_event t n next)) name ≡ Some m → IsSomeAnd (event_at (with_event t n next) m) (HoldsName k name)
    named k name m h =
        let old = table.named k name m (rw (sym (names_of-with_event t n next k)) h) in
        found_by (HoldsName k name) (is_at (nat_cmp n) m) (event_at t m) _ next (event_at-with_event t n next m found)
        (λ same. keeps k name (let moved : IsSomeAnd (event_at t n) (HoldsName k name) = rw (same_number n m same) old in rw is at moved))
        (λ _. old)

    numbered : (m : ℕ) → IsSome (event_at (with_event t n next) m) → m ≤ t.drawn
    numbered m some = number_by (m ≤ t.drawn) (is_at (nat_cmp n) m) (event_at t m) _ next (event_at-with_event t n next m found) some
        (λ same. rw (sym (same_number n m same)) (table.numbered n found))
        (λ _ before. table.numbered m before)

-- an event of a table is as it may be
pub sound_at : (t : EventTable) (n : ℕ) (e : Event) → event_at t n ≡ Some e → IsKept t → IsEvent e
sound_at t n e is table =
    let sound : IfSome (event_at t n) IsEvent = IfSome-lookup_from_All IsEvent (is_at (nat_cmp n)) t.events table.sound in
    (rw is at sound)

-- and somebody holds it
pub attended_at : (t : EventTable) (n : ℕ) (e : Event) → event_at t n ≡ Some e → IsKept t → IsAttended e
attended_at t n e is table = let held : IfSome (event_at t n) IsAttended = table.attended n in (rw is at held)

-- so it is for each call that changes one event
pub kept_changed : (t u : EventTable) (n : ℕ) (f : Event → Event) → ((e : Event) → Keeps e (f e)) → ((e : Event) → event_at t n ≡ Some e → IsEvent e → IsEvent (f e)) →
    ((e : Event) → event_at t n ≡ Some e → IsAttended e → IsAttended (f e)) → u ≡ changed t n f → IsKept t → IsKept u
kept_changed t u n f keeps good holds is table = rw is (by (event_at t n) refl)
  where
    by : (o : Option Event) → event_at t n ≡ o → IsKept (elim o [ None ↦ t | Some e ↦ with_event t n (f e) ])
    by None h = table
    by (Some e) h = kept_with t n e (f e) h (keeps e) (good e h (sound_at t n e h table)) (holds e h (attended_at t n e h table)) table

-- ---- what a call leaves to its event

-- of two, whichever it is
Keeps-if : (e x y : Event) (b : Bool) → Keeps e x → Keeps e y → Keeps e (if b then x else y)
Keeps-if e x y true first second = first
Keeps-if e x y false first second = second

-- an access lets nobody go
pub Keeps-after : (a : EventAccess) (e : Event) → Keeps e (after e a)
Keeps-after access.Listener e = λ k name holds. holds
Keeps-after (access.Set id) e = λ k name holds. record { kind = holds.kind; name = holds.name; held = holds.held }
Keeps-after access.Post e = λ k name holds. record { kind = holds.kind; name = holds.name; held = holds.held }
Keeps-after (access.Push id) e = Keeps-if e e (if nat_lt (length e.queue) 512 then record e { queue = e.queue ++ id ∷ [] } else e) (not e.held || e.gone) (λ k name holds. holds)
    (Keeps-if e (record e { queue = e.queue ++ id ∷ [] }) e (nat_lt (length e.queue) 512) (λ k name holds. record { kind = holds.kind; name = holds.name; held = holds.held }) (λ k name holds. holds))
Keeps-after access.Signal e = λ k name holds. record { kind = holds.kind; name = holds.name; held = holds.held }
Keeps-after (access.Scan word) e = λ k name holds. holds
Keeps-after (access.Clear id) e = λ k name holds. record { kind = holds.kind; name = holds.name; held = holds.held }
Keeps-after (access.Swap word) e = λ k name holds. record { kind = holds.kind; name = holds.name; held = holds.held }
Keeps-after access.Pop e = λ k name holds. record { kind = holds.kind; name = holds.name; held = holds.held }

-- nor does a listener that is gone
pub Keeps-gone : (e : Event) → Keeps e (with_gone e)
Keeps-gone e k name holds = record { kind = holds.kind; name = holds.name; held = holds.held }

-- with a notifier more, a name is held as before
held_more : (k : EventKind) (held : Bool) (n : ℕ) → elim k [ kind.Bits ↦ held || nat_lt 0 n | kind.Queue ↦ held ] ≡ true → elim k [ kind.Bits ↦ held || nat_lt 0 (n + 1) | kind.Queue ↦ held ] ≡ true
held_more kind.Bits true n holds = refl
held_more kind.Bits false n holds = grind arith
held_more kind.Queue held n holds = holds

-- nor does a notifier more let go
pub Keeps-notifier : (e : Event) → Keeps e (with_notifier e)
Keeps-notifier e k name holds = record { kind = holds.kind; name = holds.name; held = held_more e.kind e.held e.notifiers holds.held }

-- ---- a new event

-- an event is put in under a number that is free, beside its name
event_at-table_listened : (t : EventTable) (k : EventKind) (name : List ℕ) (max q : ℕ) → event_at (table_listened t k name max) q ≡ cond (is_at (nat_cmp (t.drawn + 1)) q) (Some (new_event k name max)) (event_at t q)
event_at-table_listened t k name max q = lookup-put nat_cmp nat_cmp_total exact_unsigned t.events (t.drawn + 1) (new_event k name max) q

-- a name of the new table has the new event's number, or had its number before
name_by : (k : EventKind) (name : List ℕ) (t : EventTable) (max : ℕ) (j : EventKind) (other : List ℕ) (m : ℕ) → at (names_of j (table_listened t k name max)) other ≡ Some m →
    (G : Type 0) → (j ≡ k → name ≡ other → t.drawn + 1 ≡ m → G) → (at (names_of j t) other ≡ Some m → G) → G
name_by k name t max j other m h G fresh before = by k j h fresh before
  where
    put : (names : List (List ℕ × ℕ)) → at (putting names name (t.drawn + 1)) other ≡ cond (is_at (slice_cmp nat_cmp name) other) (Some (t.drawn + 1)) (at names other)
    put names = lookup-put (slice_cmp nat_cmp) nat_list_cmp_total exact_bytes names name (t.drawn + 1) other

    choice : (names : List (List ℕ × ℕ)) (b : Bool) → is_at (slice_cmp nat_cmp name) other ≡ b → at (putting names name (t.drawn + 1)) other ≡ cond b (Some (t.drawn + 1)) (at names other) →
        at (putting names name (t.drawn + 1)) other ≡ Some m → (name ≡ other → t.drawn + 1 ≡ m → G) → (at names other ≡ Some m → G) → G
    choice names true same is found fresh' before' = fresh' (same_name name other same) (let both = (rw is at found) in cc both)
    choice names false apart is found fresh' before' = before' (rw is at found)

    by : (k j : EventKind) → at (names_of j (table_listened t k name max)) other ≡ Some m → (j ≡ k → name ≡ other → t.drawn + 1 ≡ m → G) → (at (names_of j t) other ≡ Some m → G) → G
    by kind.Bits kind.Bits found fresh' before' = choice t.bits _ refl (put t.bits) found (fresh' refl) before'
    by kind.Bits kind.Queue found fresh' before' = before' found
    by kind.Queue kind.Bits found fresh' before' = before' found
    by kind.Queue kind.Queue found fresh' before' = choice t.queues _ refl (put t.queues) found (fresh' refl) before'

-- so the new event stands
pub listened_stands : (t u : EventTable) (k : EventKind) (name : List ℕ) (max n : ℕ) → n ≡ t.drawn + 1 → u ≡ table_listened t k name max → event_at u n ≡ Some (new_event k name max)
listened_stands t u k name max n number is =
    rw is (rw number (rw (event_at-table_listened t k name max (t.drawn + 1)) (rw ((eq_by_cmp_equiv nat_cmp_total).refl (t.drawn + 1)) refl)))

-- the new event holds its name
new_holds : (k : EventKind) (name : List ℕ) (max : ℕ) → HoldsName k name (new_event k name max)
new_holds kind.Bits name max = record { kind = refl; name = refl; held = refl }
new_holds kind.Queue name max = record { kind = refl; name = refl; held = refl }

-- a listen
pub kept_listened : (t : EventTable) (k : EventKind) (name : List ℕ) (max : ℕ) → max < 2 ^ 64 → IsKept t → IsKept (table_listened t k name max)
kept_listened t k name max sized table = record {
  named = named;
  numbered = numbered;
  sound = All-values-insert_entry nat_cmp (t.drawn + 1) (new_event k name max) IsEvent t.events table.sound (IsEvent-new_event k name max sized);
  attended = λ m. all_by IsAttended (is_at (nat_cmp (t.drawn + 1)) m) (event_at t m) _ (new_event k name max) (event_at-table_listened t k name max m) (IsAttended-new_event k name max) (table.attended m);
}
  where
    fresh : HoldsName k name (new_event k name max)
    fresh = new_holds k name max

    above : (m : ℕ) (o : Option Event) (P : Event → Type 0) → event_at t m ≡ o → IsSomeAnd o P → t.drawn + 1 ≡ m → ⊥
    above m (Some e) P is some same = let low = table.numbered m (rw is refl) in omega (arith, low, same)
    above m None P is some same = some

    drawn_here : (m : ℕ) → m ≡ t.drawn + 1 → is_at (nat_cmp (t.drawn + 1)) m ≡ true
    drawn_here m e = rw e ((eq_by_cmp_equiv nat_cmp_total).refl (t.drawn + 1))

    named : (j : EventKind) (other : List ℕ) (m : ℕ) → at (names_of j (table_listened t k name max)) other ≡ Some m → IsSomeAnd (event_at (table_listened t k name max) m) (HoldsName j other)
    named j other m h = name_by k name t max j other m h _
        (λ kinds names same. let is = event_at-table_listened t k name max m in rw is (rw (drawn_here m (sym same)) (rw kinds (rw (sym names) fresh))))
        (λ before. let old = table.named j other m before in
        found_by (HoldsName j other) (is_at (nat_cmp (t.drawn + 1)) m) (event_at t m) _ (new_event k name max) (event_at-table_listened t k name max m)
        (λ same. absurd (above m (event_at t m) (HoldsName j other) refl old (same_number (t.drawn + 1) m same)))
        (λ _. old))

    numbered : (m : ℕ) → IsSome (event_at (table_listened t k name max) m) → m ≤ t.drawn + 1
    numbered m some = number_by (m ≤ t.drawn + 1) (is_at (nat_cmp (t.drawn + 1)) m) (event_at t m) _ (new_event k name max) (event_at-table_listened t k name max m) some
        (λ same. let is = same_number (t.drawn + 1) m same in omega (arith, is))
        (λ _ before. let low = table.numbered m before in omega (arith, low))

-- ---- an event whose holder was let go

-- what was put in the place of an event stands there
pub here-with_event : (t : EventTable) (n : ℕ) (e next : Event) → event_at t n ≡ Some e → event_at (with_event t n next) n ≡ Some next
here-with_event t n e next is = let found : IsSome (event_at t n) = rw is refl in
    rw (event_at-with_event t n next n found) (rw ((eq_by_cmp_equiv nat_cmp_total).refl n) refl)

-- so a changed event stands
pub changed_stands : (t u : EventTable) (n : ℕ) (f : Event → Event) → IsSome (event_at t n) → u ≡ changed t n f → IsSome (event_at u n)
changed_stands t u n f some is = by (event_at t n) refl some
  where
    by : (o : Option Event) → event_at t n ≡ o → IsSome o → IsSome (event_at u n)
    by None h none = cc none
    by (Some e) h found = let with_it : u ≡ with_event t n (f e) = (rw (h, changed) at is) in rw with_it (rw (here-with_event t n e (f e) h) refl)

-- and an event with a notifier more has one
pub notified_stands : (t u : EventTable) (n : ℕ) → IsSome (event_at t n) → u ≡ changed t n with_notifier → IsSomeAnd (event_at u n) (λ e. 0 < e.notifiers)
notified_stands t u n some is = by (event_at t n) refl some
  where
    by : (o : Option Event) → event_at t n ≡ o → IsSome o → IsSomeAnd (event_at u n) (λ e. 0 < e.notifiers)
    by None h none = absurd (cc none)
    by (Some e) h found = let with_it : u ≡ with_event t n (with_notifier e) = (rw (h, changed) at is) in rw with_it (rw (here-with_event t n e (with_notifier e) h) (omega arith))

-- where the name goes, the events stay
event_at-named_with : (t : EventTable) (n : ℕ) (e : Event) (q : ℕ) → event_at (named_with t n e) q ≡ event_at t q
event_at-named_with t n e q = by (holds_name e) e.kind
  where
    by : (b : Bool) (k : EventKind) → event_at (if b then t else with_names k t (freed (names_of k t) e.name n)) q ≡ event_at t q
    by true k = refl
    by false kind.Bits = refl
    by false kind.Queue = refl

-- numbers that differ
apart_from : (n q : ℕ) → is_at (nat_cmp n) q ≡ false → (k : ℕ) → is_at (nat_cmp n) k ≡ true → is_at (nat_cmp q) k ≡ false
apart_from n q apart k same = rw (sym (same_number n k same)) (rw ((eq_by_cmp_equiv nat_cmp_total).symm q n) apart)

-- each other event stays
event_at-settled : (t : EventTable) (n : ℕ) (e : Event) (q : ℕ) → is_at (nat_cmp n) q ≡ false → event_at (settled_with t n e) q ≡ event_at t q
event_at-settled t n e q apart = by (has_holder e)
  where
    by : (b : Bool) → event_at (if b then named_with t n e else without_event (named_with t n e) n) q ≡ event_at t q
    by true = event_at-named_with t n e q
    by false = rw (lookup-without (is_at (nat_cmp n)) (is_at (nat_cmp q)) (apart_from n q apart) (named_with t n e).events) (event_at-named_with t n e q)

-- no number is drawn
drawn-settled : (t : EventTable) (n : ℕ) (e : Event) → (settled_with t n e).drawn ≡ t.drawn
drawn-settled t n e = by (has_holder e) (holds_name e) e.kind
  where
    by : (a b : Bool) (k : EventKind) → (if a then (if b then t else with_names k t (freed (names_of k t) e.name n)) else without_event (if b then t else with_names k t (freed (names_of k t) e.name n)) n).drawn ≡ t.drawn
    by true true k = refl
    by false true k = refl
    by true false kind.Bits = refl
    by true false kind.Queue = refl
    by false false kind.Bits = refl
    by false false kind.Queue = refl

-- who holds the name holds the event
held_by_name : (k : EventKind) (held some : Bool) → elim k [ kind.Bits ↦ held || some | kind.Queue ↦ held ] ≡ true → held || some ≡ true
held_by_name kind.Bits held some holds = holds
held_by_name kind.Queue true some holds = refl
held_by_name kind.Queue false some holds = cc holds

-- where the name is held still, the event stays as it is
event_at-held : (t : EventTable) (n : ℕ) (e : Event) → holds_name e ≡ true → settled_with t n e ≡ t
event_at-held t n e holds = let held : has_holder e ≡ true = held_by_name e.kind e.held (nat_lt 0 e.notifiers) holds in rw held (rw holds refl)

-- where somebody holds the event still, it stands
event_at-attended : (t : EventTable) (n : ℕ) (e : Event) (q : ℕ) → has_holder e ≡ true → event_at (settled_with t n e) q ≡ event_at t q
event_at-attended t n e q held = rw held (event_at-named_with t n e q)

-- a holder less leaves the kind and the name
abbrev pub IsSameEvent : Event → Event → Type 0
IsSameEvent e next = (next.kind ≡ e.kind) × (next.name ≡ e.name)

-- where the name goes, the events are the same
events-named_with : (t : EventTable) (n : ℕ) (e : Event) → (named_with t n e).events ≡ t.events
events-named_with t n e = by (holds_name e) e.kind
  where
    by : (b : Bool) (k : EventKind) → (if b then t else with_names k t (freed (names_of k t) e.name n)).events ≡ t.events
    by true k = refl
    by false kind.Bits = refl
    by false kind.Queue = refl

-- the events that are left are as they may be
sound-settled : (t : EventTable) (n : ℕ) (e : Event) → All IsEvent (values_of t.events) → All IsEvent (values_of (settled_with t n e).events)
sound-settled t n e sound = by (has_holder e)
  where
    named : All IsEvent (values_of (named_with t n e).events)
    named = rw (events-named_with t n e) sound

    by : (b : Bool) → All IsEvent (values_of (if b then named_with t n e else without_event (named_with t n e) n).events)
    by true = named
    by false = All-map-remove_entry (is_at (nat_cmp n)) (λ x. x.1) IsEvent (named_with t n e).events named

-- where the event is known
kept_settled_with : (t u : EventTable) (n : ℕ) (e next : Event) → event_at t n ≡ Some e → IsSameEvent e next → IsEvent next → next.notifiers ≤ 2 ^ 64 - 2 → IsKept t →
    u ≡ settled_with (with_event t n next) n next → AreLeft (with_event t n next) u → LosesName next u n → DropsEvent u n next → IsKept u
kept_settled_with t u n e next is same good counted table done left gone dropped = record { named = named; numbered = numbered; sound = sound; attended = attended }
  where
    found : IsSome (event_at t n)
    found = rw is refl

    there : event_at (with_event t n next) n ≡ Some next
    there = here-with_event t n e next is

    sound : All IsEvent (values_of u.events)
    sound = rw done (sound-settled (with_event t n next) n next (All-values-set_value (is_at (nat_cmp n)) IsEvent t.events next table.sound good))

    others : (m : ℕ) → is_at (nat_cmp n) m ≡ false → event_at u m ≡ event_at t m
    others m apart = rw done (rw (event_at-settled (with_event t n next) n next m apart) (rw (event_at-with_event t n next m found) (rw apart refl)))

    -- the name of the event itself
    own : (k : EventKind) (name : List ℕ) → at (names_of k u) name ≡ Some n → HoldsName k name e → (b : Bool) → holds_name next ≡ b → IsSomeAnd (event_at u n) (HoldsName k name)
    own k name h old true holds = let whole : u ≡ with_event t n next = rw done (event_at-held (with_event t n next) n next holds) in
        let stands_here : event_at u n ≡ Some next = rw whole there in
        rw stands_here (record { kind = rw same.0 old.kind; name = rw same.1 old.name; held = holds })
    own k name h old false lost = let k_is : next.kind ≡ k = rw same.0 old.kind in let name_is : next.name ≡ name = rw same.1 old.name in
        absurd (gone lost (rw k_is (rw name_is h)))

    named : (k : EventKind) (name : List ℕ) (m : ℕ) → at (names_of k u) name ≡ Some m → IsSomeAnd (event_at u m) (HoldsName k name)
    named k name m h = by (is_at (nat_cmp n) m) refl
      where
        old : IsSomeAnd (event_at t m) (HoldsName k name)
        old = table.named k name m (rw (sym (names_of-with_event t n next k)) (left k name m h))

        by : (b : Bool) → is_at (nat_cmp n) m ≡ b → IsSomeAnd (event_at u m) (HoldsName k name)
        by true here = let m_is = same_number n m here in
            let held_here : IsSomeAnd (event_at t n) (HoldsName k name) = rw m_is old in
            rw (sym m_is) (own k name (rw m_is h) (rw is at held_here) (holds_name next) refl)
        by false apart = rw (others m apart) old

    numbered : (m : ℕ) → IsSome (event_at u m) → m ≤ u.drawn
    numbered m some = let drawn_is : u.drawn ≡ t.drawn = rw done (drawn-settled (with_event t n next) n next) in rw drawn_is (by (is_at (nat_cmp n) m) refl)
      where
        by : (b : Bool) → is_at (nat_cmp n) m ≡ b → m ≤ t.drawn
        by true here = rw (sym (same_number n m here)) (table.numbered n found)
        by false apart = table.numbered m (rw (sym (others m apart)) some)

    -- the event itself, if it stands still
    itself : (b : Bool) → has_holder next ≡ b → IfSome (event_at u n) IsAttended
    itself true held =
        let stays : event_at (settled_with (with_event t n next) n next) n ≡ event_at (with_event t n next) n = event_at-attended (with_event t n next) n next n held in
        rw done (rw stays (rw there (record { holder = held; counted = counted })))
    itself false none = rw (dropped none) tt

    attended : (m : ℕ) → IfSome (event_at u m) IsAttended
    attended m = by (is_at (nat_cmp n) m) refl
      where
        by : (b : Bool) → is_at (nat_cmp n) m ≡ b → IfSome (event_at u m) IsAttended
        by true here = rw (sym (same_number n m here)) (itself (has_holder next) refl)
        by false apart = rw (others m apart) (table.attended m)

-- a release
pub kept_settled : (t s u : EventTable) (n : ℕ) (f : Event → Event) → ((e : Event) → IsSameEvent e (f e)) → ((e : Event) → IsEvent e → IsEvent (f e)) →
    ((e : Event) → IsAttended e → (f e).notifiers ≤ 2 ^ 64 - 2) → IsKept t → IsSome (event_at t n) → s ≡ changed t n f → u ≡ settled s n → AreLeft s u →
    IsSomeAnd (event_at s n) (λ e. LosesName e u n) → IsSomeAnd (event_at s n) (λ e. DropsEvent u n e) → IsKept u
kept_settled t s u n f same good counted table some changed_is settled_is left gone dropped = by (event_at t n) refl
  where
    by : (o : Option Event) → event_at t n ≡ o → IsKept u
    by None h = absurd (let none = (rw h at some) in cc none)
    by (Some e) h =
        let s_is : s ≡ with_event t n (f e) = (rw (h, changed) at changed_is) in
        let there : event_at s n ≡ Some (f e) = rw s_is (here-with_event t n e (f e) h) in
        let u_is : u ≡ settled_with s n (f e) = (rw (there, settled) at settled_is) in
        let lost : LosesName (f e) u n = (rw there at gone) in
        let away : DropsEvent u n (f e) = (rw there at dropped) in
        kept_settled_with t u n e (f e) h (same e) (good e (sound_at t n e h table)) (counted e (attended_at t n e h table)) table (rw (sym s_is) u_is) (rw (sym s_is) left) lost away

-- ---- a name that goes

-- where a name goes, the events stay
event_at-without_name : (t : EventTable) (k : EventKind) (name : List ℕ) (m : ℕ) → event_at (without_name k t name) m ≡ event_at t m
event_at-without_name t kind.Bits name m = refl
event_at-without_name t kind.Queue name m = refl

-- and no number is drawn
drawn-without_name : (t : EventTable) (k : EventKind) (name : List ℕ) → (without_name k t name).drawn ≡ t.drawn
drawn-without_name t kind.Bits name = refl
drawn-without_name t kind.Queue name = refl

events-without_name : (t : EventTable) (k : EventKind) (name : List ℕ) → (without_name k t name).events ≡ t.events
events-without_name t kind.Bits name = refl
events-without_name t kind.Queue name = refl

-- a name that is removed
pub kept_removed : (t u : EventTable) (k : EventKind) (name : List ℕ) → u ≡ without_name k t name → AreLeft t u → IsKept t → IsKept u
kept_removed t u k name is left table = record { named = named; numbered = numbered; sound = sound; attended = λ m. rw (same m) (table.attended m) }
  where
    same : (m : ℕ) → event_at u m ≡ event_at t m
    same m = rw is (event_at-without_name t k name m)

    named : (j : EventKind) (other : List ℕ) (m : ℕ) → at (names_of j u) other ≡ Some m → IsSomeAnd (event_at u m) (HoldsName j other)
    named j other m h = rw (same m) (table.named j other m (left j other m h))

    numbered : (m : ℕ) → IsSome (event_at u m) → m ≤ u.drawn
    numbered m some = let drawn : u.drawn ≡ t.drawn = rw is (drawn-without_name t k name) in rw drawn (table.numbered m (rw (sym (same m)) some))

    sound : All IsEvent (values_of u.events)
    sound = let events : u.events ≡ t.events = rw is (events-without_name t k name) in rw events table.sound

-- names that a name is one of, or none of
is_none : (o : Option ℕ) → ((m : ℕ) → o ≡ Some m → ⊥) → o ≡ None
is_none None none = refl
is_none (Some m) none = absurd (none m refl)

-- who lets go of a name that nobody holds any more frees it
pub frees_name : (t s u : EventTable) (n : ℕ) (f : Event → Event) → ((e : Event) → IsSameEvent e (f e)) → IsSome (event_at t n) → s ≡ changed t n f →
    AreLeft s u → IsSomeAnd (event_at s n) (λ e. LosesName e u n) → FreesNameOf t u n f
frees_name t s u n f same some changed_is left gone = by (event_at t n) refl
  where
    by : (o : Option Event) → event_at t n ≡ o → IsSomeAnd o (λ e. FreesName t u n (f e))
    by None h = absurd (let none = (rw h at some) in cc none)
    by (Some e) h =
        let s_is : s ≡ with_event t n (f e) = (rw (h, changed) at changed_is) in
        let there : event_at s n ≡ Some (f e) = rw s_is (here-with_event t n e (f e) h) in
        let lost : LosesName (f e) u n = (rw there at gone) in
        λ nobody held. is_none _ (λ m is. (
        let before : at (names_of (f e).kind t) (f e).name ≡ Some m = rw (sym (names_of-with_event t n (f e) (f e).kind)) (rw (sym s_is) (left (f e).kind (f e).name m is)) in
        let number : n ≡ m = (let both = (rw held at before) in cc both) in
        lost nobody (rw number is)))

-- who lets go of an event that nobody holds any more lets it go
pub drops_event : (t s u : EventTable) (n : ℕ) (f : Event → Event) → IsSome (event_at t n) → s ≡ changed t n f → IsSomeAnd (event_at s n) (λ e. DropsEvent u n e) → DropsEventOf t u n f
drops_event t s u n f some changed_is dropped = by (event_at t n) refl
  where
    by : (o : Option Event) → event_at t n ≡ o → IsSomeAnd o (λ e. DropsEvent u n (f e))
    by None h = absurd (let none = (rw h at some) in cc none)
    by (Some e) h =
        let s_is : s ≡ with_event t n (f e) = (rw (h, changed) at changed_is) in
        let there : event_at s n ≡ Some (f e) = rw s_is (here-with_event t n e (f e) h) in
        (rw there at dropped)
