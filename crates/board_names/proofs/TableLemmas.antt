-- What a table holds after a change. For this crate and for all whose values stand in tables.
use Rattle.std.specs.Prelude.{◌≡◌, ◌≢◌, ℕ, List, [], ◌∷◌, Option, Some, None, Result, Ok, Err, cond, is_some, true, false, refl}
use Rattle.std.proofs.Common.{ap, sym, ◌∙◌}
use Rattle.std.specs.declared.cmp.Ordering.{Ordering}
use Rattle.std.specs.declared.cmp.Ordering.TheVariants.{Less, Equal, Greater}
use Rattle.std.specs.Ordering.{nat_cmp, match_ordering, is_eq}
use Rattle.std.specs.Cmp.Lexicographic.{slice_cmp, nat_list_cmp_total}
use Rattle.std.specs.Map.{lookup, remove_entry}
use Rattle.std.specs.BTreeMap.{insert_entry, is_at}
use Rattle.std.proofs.lemmas.Cmp.{tied_itself}
use Rattle.std.proofs.lemmas.Map.Lookups.{exact_bytes}
use Rattle.board_layout.specs.Answer.{Answers, Refuses}
use Rattle.board_names.specs.Table.{at, putting, without, taking}

-- a later entry under a key takes the place of an earlier one
insert_entry_twice : {K X : Type 0} (cmp : K → K → Ordering) (self : (k : K) → cmp k k ≡ Equal) (es : List (K × X)) (k : K) (x y : X) →
    insert_entry cmp (insert_entry cmp es k x) k y ≡ insert_entry cmp es k y
insert_entry_twice cmp self [] k x y = rw (self k)
insert_entry_twice cmp self (e ∷ es) k x y =
    elim (cmp k e.0) as (λ o. cmp k e.0 ≡ o →
    insert_entry cmp (match_ordering o ((k, x) ∷ e ∷ es) ((e.0, x) ∷ es) (e ∷ insert_entry cmp es k x)) k y
    ≡ match_ordering o ((k, y) ∷ e ∷ es) ((e.0, y) ∷ es) (e ∷ insert_entry cmp es k y)) [
      | Less ↦ λ h. rw (self k)
      | Equal ↦ λ h. rw h
      | Greater ↦ λ h. rw h (ap (λ l. e ∷ l) (insert_entry_twice cmp self es k x y))
    ] refl

-- a key has the entry that was put there
lookup-insert_entry : {K X : Type 0} (cmp : K → K → Ordering) (self : (k : K) → cmp k k ≡ Equal) (es : List (K × X)) (k : K) (x : X) →
    lookup (is_at (cmp k)) (insert_entry cmp es k x) ≡ Some x
lookup-insert_entry cmp self [] k x = rw (self k)
lookup-insert_entry cmp self (e ∷ es) k x =
    elim (cmp k e.0) as (λ o. cmp k e.0 ≡ o →
    lookup (is_at (cmp k)) (match_ordering o ((k, x) ∷ e ∷ es) ((e.0, x) ∷ es) (e ∷ insert_entry cmp es k x)) ≡ Some x) [
      | Less ↦ λ h. rw (self k)
      | Equal ↦ λ h. rw h
      | Greater ↦ λ h. rw h (lookup-insert_entry cmp self es k x)
    ] refl

-- of two values put under a name, the later one stands
pub putting-putting : {X : Type 0} (table : List (List ℕ × X)) (name : List ℕ) (x y : X) → putting (putting table name x) name y ≡ putting table name y
putting-putting table name x y = insert_entry_twice (slice_cmp nat_cmp) (tied_itself nat_list_cmp_total) table name x y

-- what was put under a name stands there
pub at-putting : {X : Type 0} (table : List (List ℕ × X)) (name : List ℕ) (x : X) → at (putting table name x) name ≡ Some x
at-putting table name x = lookup-insert_entry (slice_cmp nat_cmp) (tied_itself nat_list_cmp_total) table name x

-- a name that isn't held can be taken
pub taking-free : {X T E : Type 0} (value : T) (already : E) (one : Option X) → is_some one ≡ false → taking value already one ≡ Ok value
taking-free value already None free = refl
taking-free value already (Some one) free = cc free

-- the refusal of a call that took the name is handed on
pub taking-passed : {X T U E : Type 0} (value : T) (other : U) (already : E) (one : Option X) (made : Result T E) (result : Result U E) (e : E) →
    Refuses made (taking value already one) → made ≡ Err e → result ≡ Err e → Refuses result (taking other already one)
taking-passed value other already None made result e refuses is passed = λ d refused. cc refused
taking-passed value other already (Some one) made result e refuses is passed = λ d refused. let met = refuses already refl in cc (met, is, passed, refused)

-- the name was taken, so no refusal is expected
pub taking-kept : {X T U E : Type 0} (value : T) (other : U) (already : E) (one : Option X) (made : Result T E) (result : Result U E) (had : T) (out_of_memory : E) →
    Answers made out_of_memory (taking value already one) → made ≡ Ok had → Refuses result (taking other already one)
taking-kept value other already None made result had m answers is = λ d refused. cc refused
taking-kept value other already (Some one) made result had m answers is = λ d refused. let same : made ≡ Err already = answers (λ e. cc (e, is)) in cc (same, is)

-- texts that differ compare apart
texts_apart : (one other : List ℕ) → one ≢ other → is_eq (slice_cmp nat_cmp one other) ≡ false
texts_apart one other differ =
    elim (slice_cmp nat_cmp one other) as (λ o. slice_cmp nat_cmp one other ≡ o → is_eq o ≡ false) [
      | Less ↦ λ h. refl
      | Equal ↦ λ h. absurd (differ (exact_bytes one other h))
      | Greater ↦ λ h. refl
    ] refl

-- whatever is tied with a text is apart from another
tied_apart : (one name other : List ℕ) → one ≢ name → slice_cmp nat_cmp name other ≡ Equal → is_eq (slice_cmp nat_cmp one other) ≡ false
tied_apart one name other differ tied = texts_apart one other (λ same. differ (same ∙ sym (exact_bytes name other tied)))

-- a key keeps its entry where another one is put
lookup-insert_entry-other : {K X : Type 0} (cmp : K → K → Ordering) (q k : K) → ((other : K) → cmp k other ≡ Equal → is_eq (cmp q other) ≡ false) →
    is_eq (cmp q k) ≡ false → (es : List (K × X)) (x : X) → lookup (is_at (cmp q)) (insert_entry cmp es k x) ≡ lookup (is_at (cmp q)) es
lookup-insert_entry-other cmp q k tied apart [] x = rw apart
lookup-insert_entry-other cmp q k tied apart (e ∷ es) x =
    elim (cmp k e.0) as (λ o. cmp k e.0 ≡ o →
    lookup (is_at (cmp q)) (match_ordering o ((k, x) ∷ e ∷ es) ((e.0, x) ∷ es) (e ∷ insert_entry cmp es k x)) ≡ lookup (is_at (cmp q)) (e ∷ es)) [
      | Less ↦ λ h. rw apart
      | Equal ↦ λ h. rw (tied e.0 h)
      | Greater ↦ λ h. ap (cond (is_eq (cmp q e.0)) (Some e.1)) (lookup-insert_entry-other cmp q k tied apart es x)
    ] refl

-- a key keeps its entry where another one's is taken out
lookup-remove_entry-other : {K X : Type 0} (cmp : K → K → Ordering) (q k : K) → ((other : K) → is_eq (cmp k other) ≡ true → is_eq (cmp q other) ≡ false) →
    (es : List (K × X)) → lookup (is_at (cmp q)) (remove_entry (is_at (cmp k)) es) ≡ lookup (is_at (cmp q)) es
lookup-remove_entry-other cmp q k tied [] = refl
lookup-remove_entry-other cmp q k tied (e ∷ es) =
    elim (is_eq (cmp k e.0)) as (λ b. is_eq (cmp k e.0) ≡ b →
    lookup (is_at (cmp q)) (cond b es (e ∷ remove_entry (is_at (cmp k)) es)) ≡ lookup (is_at (cmp q)) (e ∷ es)) [
      | true ↦ λ h. rw (tied e.0 h)
      | false ↦ λ h. ap (cond (is_eq (cmp q e.0)) (Some e.1)) (lookup-remove_entry-other cmp q k tied es)
    ] refl

is_eq-Equal : (o : Ordering) → is_eq o ≡ true → o ≡ Equal
is_eq-Equal Less h = cc h
is_eq-Equal Equal h = refl
is_eq-Equal Greater h = cc h

-- what stands under another name stays where something is put under a name
pub at-putting-other : {X : Type 0} (table : List (List ℕ × X)) (name other : List ℕ) (x : X) → other ≢ name → at (putting table name x) other ≡ at table other
at-putting-other table name other x differ =
    lookup-insert_entry-other (slice_cmp nat_cmp) other name (λ one. tied_apart other name one differ) (texts_apart other name differ) table x

-- what stands under another name stays where a name is taken out
pub at-without-other : {X : Type 0} (table : List (List ℕ × X)) (name other : List ℕ) → other ≢ name → at (without table name) other ≡ at table other
at-without-other table name other differ =
    lookup-remove_entry-other (slice_cmp nat_cmp) other name
    (λ one h. tied_apart other name one differ (is_eq-Equal (slice_cmp nat_cmp name one) h)) table

-- what stands under a name where another was taken out stood there before
pub at-without-before : {X : Type 0} (table : List (List ℕ × X)) (name other : List ℕ) (x : X) → at (without table name) name ≡ None → at (without table name) other ≡ Some x → at table other ≡ Some x
at-without-before table name other x gone found =
    elim (slice_cmp nat_cmp other name) as (λ o. slice_cmp nat_cmp other name ≡ o → at table other ≡ Some x) [
      | Less ↦ λ h. sym (at-without-other table name other (differs Less h (λ e. cc e))) ∙ found
      | Equal ↦ λ h. let same = exact_bytes other name h in let none : at (without table name) other ≡ None = ap (λ n. at (without table name) n) same ∙ gone in cc (none, found)
      | Greater ↦ λ h. sym (at-without-other table name other (differs Greater h (λ e. cc e))) ∙ found
    ] refl
  where
    differs : (o : Ordering) → slice_cmp nat_cmp other name ≡ o → (Equal ≡ o → ⊥) → other ≢ name
    differs o h not_equal same = not_equal (sym (ap (λ n. slice_cmp nat_cmp n name) same ∙ tied_itself nat_list_cmp_total name) ∙ h)
