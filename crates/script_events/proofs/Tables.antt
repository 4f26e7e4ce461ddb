-- What stands in the table of events after its calls, number by number and name by name.
use Rattle.std.specs.Prelude.{◌≡◌, ℕ, ◌==◌, Bool, true, false, cond, List, [], ◌∷◌, Option, Some, None, refl}
use Rattle.std.proofs.Common.{ap, sym, ◌∙◌, eqb, inl, inr}
use Rattle.std.specs.declared.cmp.Ordering.{Ordering}
use Rattle.std.specs.declared.cmp.Ordering.TheVariants.{Less, Equal, Greater}
use Rattle.std.specs.Ordering.{nat_cmp, is_eq, match_ordering}
use Rattle.std.specs.Cmp.{Equal-is, IsTotalOrder}
use Rattle.std.specs.Cmp.Lexicographic.{slice_cmp, nat_list_cmp_total}
use Rattle.std.specs.Map.{lookup, remove_entry, set_value}
use Rattle.std.specs.BTreeMap.{insert_entry, is_at}
use Rattle.std.specs.Str.{bytes_eq}
use Rattle.std.proofs.lemmas.Cmp.{eq_by_cmp_equiv, nat_cmp_total}
use Rattle.std.proofs.lemmas.Map.Lookups.{CmpEqualImpliesEq, exact_unsigned}
use Rattle.std.proofs.lemmas.Map.Text.{is_eq-slice_cmp}
use Rattle.board_event_model.proofs.QuietLemmas.{eqb_self, eqb_true}
use Rattle.script_events.specs.PartyEvents.{AreOnce}
use Rattle.script_events.proofs.Options.{either}

-- ---- keys

-- numbers compare as equal where they are
pub at_number : (n q : ℕ) → is_at (nat_cmp n) q ≡ (q == n)
at_number n q = elim (either (q == n)) [
  | inl f ↦ rw f (rw (eqb_true q n f) ((eq_by_cmp_equiv nat_cmp_total).refl n))
  | inr f ↦ elim (either (is_at (nat_cmp n) q)) [
    | inl g ↦ absurd (let same = exact_unsigned n q ((Equal-is (nat_cmp n q)).0 g) in let e : eqb q n ≡ true = rw same (eqb_self q) in cc)
    | inr g ↦ rw (f, g) refl
  ]
]

-- names compare as equal where their bytes are
pub at_name : (a b : List ℕ) → is_at (slice_cmp nat_cmp a) b ≡ bytes_eq b a
at_name a b = (eq_by_cmp_equiv nat_list_cmp_total).symm a b ∙ is_eq-slice_cmp b a

-- ---- entries

-- what is found where an entry was put in
pub lookup-put : {K X : Type 0} (cmp : K → K → Ordering) → IsTotalOrder cmp → CmpEqualImpliesEq cmp → (es : List (K × X)) (k : K) (x : X) (q : K) →
    lookup (is_at (cmp q)) (insert_entry cmp es k x) ≡ cond (is_at (cmp k) q) (Some x) (lookup (is_at (cmp q)) es)
lookup-put cmp total exact [] k x q = rw ((eq_by_cmp_equiv total).symm q k) refl
lookup-put {K} {X} cmp total exact (e ∷ es) k x q = by (lookup-put cmp total exact es k x q) (cmp k e.0) refl
  where
    found : Option X
    found = lookup (is_at (cmp q)) es

    twice : (b : Bool) (y z : X) → cond b (Some y) found ≡ cond b (Some y) (cond b (Some z) found)
    twice true y z = refl
    twice false y z = refl

    swapped : (a b : Bool) (y z : X) → (a ≡ true → b ≡ false) → cond a (Some y) (cond b (Some z) found) ≡ cond b (Some z) (cond a (Some y) found)
    swapped true true y z apart = absurd (let other = apart refl in cc other)
    swapped true false y z apart = refl
    swapped false b y z apart = refl

    by : lookup (is_at (cmp q)) (insert_entry cmp es k x) ≡ cond (is_at (cmp k) q) (Some x) found → (r : Ordering) → cmp k e.0 ≡ r → lookup (is_at (cmp q)) (match_ordering r ((k, x) ∷ e ∷ es) ((e.0, x) ∷ es) (e ∷ insert_entry cmp es k x))
        ≡ cond (is_at (cmp k) q) (Some x) (cond (is_at (cmp q) e.0) (Some e.1) found)
    by later Less h = rw ((eq_by_cmp_equiv total).symm q k) refl
    by later Equal h = let same = exact k e.0 h in rw ((eq_by_cmp_equiv total).symm k q) (rw same (twice (is_eq (cmp q e.0)) x e.1))
    by later Greater h = rw later (swapped (is_eq (cmp q e.0)) (is_eq (cmp k q)) e.1 x (λ one. apart one (is_eq (cmp k q)) refl))
      where
        apart : is_eq (cmp q e.0) ≡ true → (b : Bool) → is_eq (cmp k q) ≡ b → b ≡ false
        apart one true both = let first = exact q e.0 ((Equal-is (cmp q e.0)).0 one) in let second = exact k q ((Equal-is (cmp k q)).0 both) in absurd (let differ : is_eq (cmp k e.0) ≡ false = ap is_eq h in let alike : is_eq (cmp k e.0) ≡ true = rw (sym first) both in cc (differ, alike))
        apart one false both = refl

-- an entry that is none stays none where another goes or changes
pub none-remove : {K X : Type 0} (test other : K → Bool) (es : List (K × X)) → lookup other es ≡ None → lookup other (remove_entry test es) ≡ None
none-remove test other [] e = refl
none-remove test other (x ∷ es) e = elim (either (other x.0)) [
  | inl f ↦ absurd (let g = (rw f at e) in cc)
  | inr f ↦ elim (either (test x.0)) [
    | inl g ↦ rw g (rw f at e)
    | inr g ↦ rw (g, f) (none-remove test other es (rw f at e))
  ]
]

pub none-set : {K X : Type 0} (test other : K → Bool) (w : X) (es : List (K × X)) → lookup other es ≡ None → lookup other (set_value test es w) ≡ None
none-set test other w [] e = refl
none-set test other w (x ∷ es) e = elim (either (other x.0)) [
  | inl f ↦ absurd (let g = (rw f at e) in cc)
  | inr f ↦ elim (either (test x.0)) [
    | inl g ↦ rw (g, f) (rw f at e)
    | inr g ↦ rw (g, f) (none-set test other w es (rw f at e))
  ]
]

-- keys stand once as before
pub once-remove : {K X : Type 0} (cmp : K → K → Ordering) (test : K → Bool) (es : List (K × X)) → AreOnce cmp es → AreOnce cmp (remove_entry test es)
once-remove cmp test [] h = h
once-remove cmp test (x ∷ es) h = elim (either (test x.0)) [
  | inl g ↦ rw g h.1
  | inr g ↦ rw g (none-remove test (is_at (cmp x.0)) es h.0, once-remove cmp test es h.1)
]

pub once-set : {K X : Type 0} (cmp : K → K → Ordering) (test : K → Bool) (w : X) (es : List (K × X)) → AreOnce cmp es → AreOnce cmp (set_value test es w)
once-set cmp test w [] h = h
once-set cmp test w (x ∷ es) h = elim (either (test x.0)) [
  | inl g ↦ rw g (h.0, h.1)
  | inr g ↦ rw g (none-set test (is_at (cmp x.0)) w es h.0, once-set cmp test w es h.1)
]

pub once-put : {K X : Type 0} (cmp : K → K → Ordering) → IsTotalOrder cmp → CmpEqualImpliesEq cmp → (es : List (K × X)) (k : K) (x : X) → lookup (is_at (cmp k)) es ≡ None → AreOnce cmp es → AreOnce cmp (insert_entry cmp es k x)
once-put cmp total exact [] k x free h = (refl, h)
once-put {K} {X} cmp total exact (e ∷ es) k x free h = by (once-put cmp total exact es k x) (cmp k e.0) refl
  where
    by : (lookup (is_at (cmp k)) es ≡ None → AreOnce cmp es → AreOnce cmp (insert_entry cmp es k x)) → (r : Ordering) → cmp k e.0 ≡ r → AreOnce cmp (match_ordering r ((k, x) ∷ e ∷ es) ((e.0, x) ∷ es) (e ∷ insert_entry cmp es k x))
    by later Less r = (free, h)
    by later Equal r = absurd (let f = (rw r at free) in cc)
    by later Greater r = (lookup-put cmp total exact es k x e.0 ∙ rw r h.0, later (rw r at free) h.1)

-- what was taken out isn't found
pub lookup-gone : {K X : Type 0} (cmp : K → K → Ordering) → CmpEqualImpliesEq cmp → (k : K) (es : List (K × X)) → AreOnce cmp es → lookup (is_at (cmp k)) (remove_entry (is_at (cmp k)) es) ≡ None
lookup-gone cmp exact k [] h = refl
lookup-gone cmp exact k (e ∷ es) h = elim (either (is_at (cmp k) e.0)) [
  | inl f ↦ rw f (rw (exact k e.0 ((Equal-is (cmp k e.0)).0 f)) h.0)
  | inr f ↦ rw (f, f) (lookup-gone cmp exact k es h.1)
]

-- and each other is
pub lookup-other : {K X : Type 0} (test other : K → Bool) → ((k : K) → test k ≡ true → other k ≡ false) → (es : List (K × X)) → lookup other (remove_entry test es) ≡ lookup other es
lookup-other test other apart [] = refl
lookup-other {K} {X} test other apart (e ∷ es) = by (lookup-other test other apart es) (test e.0) refl
  where
    by : lookup other (remove_entry test es) ≡ lookup other es → (b : Bool) → test e.0 ≡ b → lookup other (cond b es (e ∷ remove_entry test es)) ≡ lookup other (e ∷ es)
    by later true h = rw (apart e.0 h) refl
    by later false h = rw later refl

-- where both are told
pub lookup-removed : {K X : Type 0} (cmp : K → K → Ordering) → IsTotalOrder cmp → CmpEqualImpliesEq cmp → (k q : K) (es : List (K × X)) → AreOnce cmp es →
    lookup (is_at (cmp q)) (remove_entry (is_at (cmp k)) es) ≡ cond (is_at (cmp k) q) None (lookup (is_at (cmp q)) es)
lookup-removed {K} {X} cmp total exact k q es h = elim (either (is_at (cmp k) q)) [
  | inl f ↦ rw f (rw (sym (exact k q ((Equal-is (cmp k q)).0 f))) (lookup-gone cmp exact k es h))
  | inr f ↦ rw f (lookup-other (is_at (cmp k)) (is_at (cmp q)) (λ j g. (let same = exact k j ((Equal-is (cmp k j)).0 g) in rw (sym same) (rw ((eq_by_cmp_equiv total).symm q k) f))) es)
]
