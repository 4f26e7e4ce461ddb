-- A table's entries, seen by the bytes of their names: what is looked up, put and taken out there.
use Rattle.std.specs.Prelude.{◌≡◌, ℕ, List, [], ◌∷◌, Some, None, cond, IsSome, length, map, true, false, refl, slice_get, option_map, Vec, Result, Ok, Err, OnErr}
use Rattle.std.proofs.Common.{ap, sym, ◌∙◌, subst, suc}
use Rattle.std.specs.declared.cmp.Ordering.{Ordering}
use Rattle.std.specs.declared.cmp.Ordering.TheVariants.{Less, Equal, Greater}
use Rattle.std.specs.Ordering.{nat_cmp, match_ordering, is_eq}
use Rattle.std.specs.Cmp.Lexicographic.{slice_cmp, nat_list_cmp_total}
use Rattle.std.specs.List.{AllByRecursion, All}
use Rattle.std.specs.List.Sorted.{IsStrictlySortedBy}
use Rattle.std.specs.Map.{keys_of, lookup, remove_entry, set_value}
use Rattle.std.specs.BTreeMap.{insert_entry, is_at, BTreeMap, get_by, keys}
use Rattle.std.specs.BTreeMap.Comparable.{le_lt_trans}
use Rattle.std.proofs.lemmas.Option.{get_or_from_slice_get, slice_get-map, slice_get_within}
use Rattle.board_names.specs.Table.{NamesAscend, at, putting, without, Held, name_at}
use Rattle.board_names.specs.Keys.{held, seen_by}

module _ {K X : Type 0} (name : K → List ℕ) where
  -- what a query finds
  pub lookup-seen_by : (q : List ℕ → Ordering) (es : List (K × X)) → lookup (is_at (λ k. q (name k))) es ≡ lookup (is_at q) (seen_by name es)
  lookup-seen_by q [] = refl
  lookup-seen_by q (e ∷ es) = ap (cond (is_eq (q (name e.0))) (Some e.1)) (lookup-seen_by q es)

  -- what is left where a query's entry is taken out
  pub remove_entry-seen_by : (q : List ℕ → Ordering) (es : List (K × X)) → seen_by name (remove_entry (is_at (λ k. q (name k))) es) ≡ remove_entry (is_at q) (seen_by name es)
  remove_entry-seen_by q [] = refl
  remove_entry-seen_by q (e ∷ es) =
      elim (is_eq (q (name e.0))) as (λ b. seen_by name (cond b es (e ∷ remove_entry (is_at (λ k. q (name k))) es)) ≡ cond b (seen_by name es) ((name e.0, e.1) ∷ remove_entry (is_at q) (seen_by name es))) [
        | true ↦ refl
        | false ↦ ap (λ l. (name e.0, e.1) ∷ l) (remove_entry-seen_by q es)
      ]

  -- an entry more
  pub insert_entry-seen_by : (cmp : List ℕ → List ℕ → Ordering) (es : List (K × X)) (k : K) (x : X) →
      seen_by name (insert_entry (λ a b. cmp (name a) (name b)) es k x) ≡ insert_entry cmp (seen_by name es) (name k) x
  insert_entry-seen_by cmp [] k x = refl
  insert_entry-seen_by cmp (e ∷ es) k x =
      elim (cmp (name k) (name e.0)) as (λ o.
      seen_by name (match_ordering o ((k, x) ∷ e ∷ es) ((e.0, x) ∷ es) (e ∷ insert_entry (λ a b. cmp (name a) (name b)) es k x))
      ≡ match_ordering o ((name k, x) ∷ (name e.0, e.1) ∷ seen_by name es) ((name e.0, x) ∷ seen_by name es) ((name e.0, e.1) ∷ insert_entry cmp (seen_by name es) (name k) x)) [
        | Less ↦ refl
        | Equal ↦ refl
        | Greater ↦ ap (λ l. (name e.0, e.1) ∷ l) (insert_entry-seen_by cmp es k x)
      ]

  -- another value under a key
  pub set_value-seen_by : (q : List ℕ → Ordering) (es : List (K × X)) (x : X) → seen_by name (set_value (is_at (λ k. q (name k))) es x) ≡ set_value (is_at q) (seen_by name es) x
  set_value-seen_by q [] x = refl
  set_value-seen_by q (e ∷ es) x =
      elim (is_eq (q (name e.0))) as (λ b. seen_by name (cond b ((e.0, x) ∷ es) (e ∷ set_value (is_at (λ k. q (name k))) es x)) ≡ cond b ((name e.0, x) ∷ seen_by name es) ((name e.0, e.1) ∷ set_value (is_at q) (seen_by name es) x)) [
        | true ↦ refl
        | false ↦ ap (λ l. (name e.0, e.1) ∷ l) (set_value-seen_by q es x)
      ]

  -- the keys
  pub keys-seen_by : (es : List (K × X)) → keys_of (seen_by name es) ≡ map name (keys_of es)
  keys-seen_by [] = refl
  keys-seen_by (e ∷ es) = ap (λ l. name e.0 ∷ l) (keys-seen_by es)

  pub length-seen_by : (es : List (K × X)) → length (seen_by name es) ≡ length es
  length-seen_by [] = refl
  length-seen_by (e ∷ es) = ap suc (length-seen_by es)

-- what holds of each key's name holds of each name
AllByRecursion-map : {K : Type 0} (name : K → List ℕ) (P : List ℕ → Type 0) (ks : List K) → AllByRecursion (λ k. P (name k)) ks → AllByRecursion P (map name ks)
AllByRecursion-map name P [] each = tt
AllByRecursion-map name P (k ∷ ks) each = (each.0, AllByRecursion-map name P ks each.1)

-- keys that ascend by their names give names that ascend
sorted-map : {K : Type 0} (name : K → List ℕ) (cmp : List ℕ → List ℕ → Ordering) (ks : List K) → IsStrictlySortedBy (λ a b. cmp (name a) (name b)) ks → IsStrictlySortedBy cmp (map name ks)
unfolding IsStrictlySortedBy
sorted-map name cmp [] ascend = tt
sorted-map name cmp (k ∷ ks) ascend = (AllByRecursion-map name (λ other. cmp (name k) other ≡ Less) ks ascend.0, sorted-map name cmp ks ascend.1)

pub ascend-seen_by : {K X : Type 0} (name : K → List ℕ) (es : List (K × X)) → IsStrictlySortedBy (λ a b. slice_cmp nat_cmp (name a) (name b)) (keys_of es) → NamesAscend (seen_by name es)
ascend-seen_by name es ascend = subst (IsStrictlySortedBy (slice_cmp nat_cmp)) (sym (keys-seen_by name es)) (sorted-map name (slice_cmp nat_cmp) (keys_of es) ascend)

-- no key that a lesser one is below is found there
nothing_below : {X : Type 0} (k : List ℕ) (es : List (List ℕ × X)) → AllByRecursion (λ other. slice_cmp nat_cmp k other ≡ Less) (keys_of es) → lookup (is_at (slice_cmp nat_cmp k)) es ≡ None
nothing_below k [] above = refl
nothing_below k (e ∷ es) above = rw above.0 (nothing_below k es above.1)

-- a name that is below a key is below all keys behind that one
below_all : (k first : List ℕ) (ks : List (List ℕ)) → slice_cmp nat_cmp k first ≡ Less → AllByRecursion (λ other. slice_cmp nat_cmp first other ≡ Less) ks → AllByRecursion (λ other. slice_cmp nat_cmp k other ≡ Less) ks
below_all k first [] less above = tt
below_all k first (other ∷ ks) less above = (le_lt_trans nat_list_cmp_total k first other (rw less refl) above.0, below_all k first ks less above.1)

-- where a name is held, a value put under it takes the place of the one that stood there
pub set_value-putting : {X : Type 0} (table : List (List ℕ × X)) (name : List ℕ) (x : X) → NamesAscend table → IsSome (at table name) → set_value (is_at (slice_cmp nat_cmp name)) table x ≡ putting table name x
unfolding IsStrictlySortedBy
set_value-putting [] name x ascend some = cc some
set_value-putting (e ∷ es) name x ascend some =
    elim (slice_cmp nat_cmp name e.0) as (λ o. slice_cmp nat_cmp name e.0 ≡ o → IsSome (cond (is_eq o) (Some e.1) (at es name)) →
    cond (is_eq o) ((e.0, x) ∷ es) (e ∷ set_value (is_at (slice_cmp nat_cmp name)) es x) ≡ match_ordering o ((name, x) ∷ e ∷ es) ((e.0, x) ∷ es) (e ∷ putting es name x)) [
      | Less ↦ λ h found. let none : at es name ≡ None = nothing_below name es (below_all name e.0 (keys_of es) h ascend.0) in cc (none, found)
      | Equal ↦ λ h found. refl
      | Greater ↦ λ h found. ap (λ l. e ∷ l) (set_value-putting es name x ascend.1 found)
    ] refl some

-- what holds of each element holds of the one at an index
pub All-at : {A : Type 0} (P : A → Type 0) (xs : List A) (i : ℕ) (x : A) → All P xs → Some x ≡ slice_get xs i → P x
All-at P xs i x all found = subst P (get_or_from_slice_get xs i x x (sym found)) (all i x (slice_get_within xs i x (sym found)))

-- what holds whatever is answered holds at an error
pub on_err_anyway : {A E : Type 0} (r : Result A E) (P : Type 0) → P → OnErr r P
on_err_anyway (Ok x) P p = tt
on_err_anyway (Err e) P p = p

-- a map as a table
module _ {X Z : Type 0} (m : BTreeMap (Vec ℕ Z) X) (t : Held X) (is : held m ≡ t) where
  -- what stands under a name
  pub at-held : (bytes name : List ℕ) → bytes ≡ name → get_by (λ k. slice_cmp nat_cmp bytes k.items) m ≡ at t.entries name
  at-held bytes name same =
      lookup-seen_by (λ k. k.items) (slice_cmp nat_cmp bytes) m.entries ∙ ap (λ n. at (held m).entries n) same ∙ ap (λ (u : Held X). at u.entries name) is

  -- the names ascend
  pub ascend-held : IsStrictlySortedBy (λ k other. slice_cmp nat_cmp k.items other.items) (keys m) → NamesAscend t.entries
  ascend-held ascend = subst (λ (u : Held X). NamesAscend u.entries) is (ascend-seen_by (λ k. k.items) m.entries ascend)

  -- the name at an index
  pub name_at-held : (index : ℕ) → option_map (λ k. k.items) (slice_get (keys m) index) ≡ name_at t.entries index
  name_at-held index =
      sym (slice_get-map (λ k. k.items) (keys m) index) ∙ ap (λ ks. slice_get ks index) (sym (keys-seen_by (λ k. k.items) m.entries)) ∙ ap (λ (u : Held X). name_at u.entries index) is

  -- a new key
  pub put-held : (n : BTreeMap (Vec ℕ Z) X) (key : Vec ℕ Z) (name : List ℕ) (x : X) → key.items ≡ name
      → n.entries ≡ insert_entry (λ k other. slice_cmp nat_cmp k.items other.items) m.entries key x → (held n).entries ≡ putting t.entries name x
  put-held n key name x same put =
      ap (seen_by (λ k. k.items)) put ∙ insert_entry-seen_by (λ k. k.items) (slice_cmp nat_cmp) m.entries key x
      ∙ ap (λ b. putting (held m).entries b x) same ∙ ap (λ (u : Held X). putting u.entries name x) is

  -- another value under a key
  pub written-held : (n : BTreeMap (Vec ℕ Z) X) (bytes name : List ℕ) (w x : X) → bytes ≡ name → w ≡ x → NamesAscend t.entries → IsSome (at t.entries name)
      → n.entries ≡ set_value (is_at (λ k. slice_cmp nat_cmp bytes k.items)) m.entries w → (held n).entries ≡ putting t.entries name x
  written-held n bytes name w x same value ascend some written =
      ap (seen_by (λ k. k.items)) written ∙ set_value-seen_by (λ k. k.items) (slice_cmp nat_cmp bytes) m.entries w
      ∙ ap (λ b. set_value (is_at (slice_cmp nat_cmp b)) (held m).entries w) same
      ∙ ap (λ v. set_value (is_at (slice_cmp nat_cmp name)) (held m).entries v) value
      ∙ ap (λ (u : Held X). set_value (is_at (slice_cmp nat_cmp name)) u.entries x) is
      ∙ set_value-putting t.entries name x ascend some

  -- a key that is taken out
  pub without-held : (n : BTreeMap (Vec ℕ Z) X) (bytes name : List ℕ) → bytes ≡ name
      → n.entries ≡ remove_entry (is_at (λ k. slice_cmp nat_cmp bytes k.items)) m.entries → (held n).entries ≡ without t.entries name
  without-held n bytes name same taken =
      ap (seen_by (λ k. k.items)) taken ∙ remove_entry-seen_by (λ k. k.items) (slice_cmp nat_cmp bytes) m.entries
      ∙ ap (λ b. without (held m).entries b) same ∙ ap (λ (u : Held X). without u.entries name) is
