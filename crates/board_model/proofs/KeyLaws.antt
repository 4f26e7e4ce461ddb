-- When keys are equal, and what a lookup takes.
use Rattle.std.proofs.Common.{◌≡◌, ℕ, zero, suc, ◌+◌, ◌<◌, Bool, true, false, cond, List, [], ◌∷◌, map, arith, refl, sym, ap, subst, ◌∙◌, Some, None}
use Rattle.std.specs.Prelude.{slice_get}
use Rattle.std.specs.Str.{bytes_eq}
use Rattle.std.specs.Char.{to_ascii_lowercase}
use Rattle.std.proofs.lemmas.Slice.Eq.{bytes_eq-Decides}
use Rattle.board_model.specs.declared.tables.Entry.{Entry}
use Rattle.board_model.specs.declared.value.KeyType.TheVariants as key_type
use Rattle.board_model.specs.Tables.{entry_from}
use Rattle.board_model.specs.LawsOfKeys.{EqualKeysAreAnEquivalence, IsFirst, LookupsTakeNone, LookupsTakeTheFirst}
use Rattle.board_model.proofs.ListLemmas.{same_bytes}

-- ---- equal keys

equal_bytes : (a b : List ℕ) → a ≡ b → bytes_eq a b ≡ true
equal_bytes a b e = (bytes_eq-Decides a b).1 e

pub equivalence : EqualKeysAreAnEquivalence
equivalence key_type.U64 = record {
  itself = λ a. equal_bytes a a refl;
  turned = λ a b h. equal_bytes b a (sym (same_bytes a b h));
  joined = λ a b c h k. equal_bytes a c (same_bytes a b h ∙ same_bytes b c k);
}
equivalence key_type.F8 = record {
  itself = λ a. equal_bytes (low a) (low a) refl;
  turned = λ a b h. equal_bytes (low b) (low a) (sym (same_bytes (low a) (low b) h));
  joined = λ a b c h k. equal_bytes (low a) (low c) (same_bytes (low a) (low b) h ∙ same_bytes (low b) (low c) k);
}
  where
    low : List ℕ → List ℕ
    low a = map to_ascii_lowercase a

-- ---- lookups

same_found : (x y : ℕ × Entry) → Some x ≡ Some y → x ≡ y
same_found x y e = cc

-- from one place on
record IsFirstFrom (is_key : List ℕ → Bool) (entries : List Entry) (from place : ℕ) (e : Entry) : Type 0 where
  pub at : ℕ
  pub sum : place ≡ from + at
  pub first : IsFirst is_key entries at e

first_from : (is_key : List ℕ → Bool) (entries : List Entry) (from place : ℕ) (e : Entry) → entry_from from is_key entries ≡ Some (place, e) → IsFirstFrom is_key entries from place e
first_from is_key [] from place e h = absurd cc
first_from is_key (x ∷ xs) from place e h = at (is_key x.key.bytes) refl (first_from is_key xs (from + 1) place e) h
  where
    none : (i : ℕ) (f : Entry) → i < zero → slice_get (x ∷ xs) i ≡ Some f → is_key f.key.bytes ≡ false
    none i f lt g = absurd (omega arith)

    at : (z : Bool) → is_key x.key.bytes ≡ z → (entry_from (from + 1) is_key xs ≡ Some (place, e) → IsFirstFrom is_key xs (from + 1) place e) → cond z (Some (from, x)) (entry_from (from + 1) is_key xs) ≡ Some (place, e) → IsFirstFrom is_key (x ∷ xs) from place e
    at true t ih k =
        let w : ◌≡◌ {A = ℕ × Entry} (from, x) (place, e) = same_found (from, x) (place, e) k in
        let p : from ≡ place = ap (λ (y : ℕ × Entry). y.0) w in
        let q : x ≡ e = ap (λ (y : ℕ × Entry). y.1) w in
        record { at = zero; sum = omega (arith, p); first = record { there = ap (λ (y : Entry). Some y) q; passes = subst (λ (y : Entry). is_key y.key.bytes ≡ true) q t; before = none } }
    at false t ih k = more (ih k)
      where
        same_entry : (y z : Entry) → Some y ≡ Some z → y ≡ z
        same_entry y z u = cc

        more : IsFirstFrom is_key xs (from + 1) place e → IsFirstFrom is_key (x ∷ xs) from place e
        more r = record { at = suc r.at; sum = omega (arith, r.sum); first = record { there = r.first.there; passes = r.first.passes; before = before } }
          where
            before : (i : ℕ) (f : Entry) → i < suc r.at → slice_get (x ∷ xs) i ≡ Some f → is_key f.key.bytes ≡ false
            before zero f lt g = subst (λ (y : Entry). is_key y.key.bytes ≡ false) (same_entry x f g) t
            before (suc i) f lt g = r.first.before i f (omega arith) g

pub first_taken : LookupsTakeTheFirst
first_taken is_key entries place e h =
    let r = first_from is_key entries 0 place e h in
    let p : r.at ≡ place = omega (arith, r.sum) in
    subst (λ (i : ℕ). IsFirst is_key entries i e) p r.first

no_item : (i : ℕ) (e : Entry) → slice_get [] i ≡ Some e → ⊥
no_item i e g = absurd cc

none_from : (is_key : List ℕ → Bool) (entries : List Entry) (from : ℕ) → entry_from from is_key entries ≡ None → (i : ℕ) (e : Entry) → slice_get entries i ≡ Some e → is_key e.key.bytes ≡ false
none_from is_key [] from h = λ i e g. absurd (no_item i e g)
none_from is_key (x ∷ xs) from h = at (is_key x.key.bytes) refl h (none_from is_key xs (from + 1))
  where
    same_entry : (y z : Entry) → Some y ≡ Some z → y ≡ z
    same_entry y z u = cc

    at : (z : Bool) → is_key x.key.bytes ≡ z → cond z (Some (from, x)) (entry_from (from + 1) is_key xs) ≡ None
        → (entry_from (from + 1) is_key xs ≡ None → (i : ℕ) (e : Entry) → slice_get xs i ≡ Some e → is_key e.key.bytes ≡ false)
        → (i : ℕ) (e : Entry) → slice_get (x ∷ xs) i ≡ Some e → is_key e.key.bytes ≡ false
    at true t k more i e g = absurd cc
    at false t k more zero e g = subst (λ (y : Entry). is_key y.key.bytes ≡ false) (same_entry x e g) t
    at false t k more (suc i) e g = more k i e g

all_from : (is_key : List ℕ → Bool) (entries : List Entry) (from : ℕ) → ((i : ℕ) (e : Entry) → slice_get entries i ≡ Some e → is_key e.key.bytes ≡ false) → entry_from from is_key entries ≡ None
all_from is_key [] from h = refl
all_from is_key (x ∷ xs) from h = rw (h 0 x refl) (all_from is_key xs (from + 1) (λ i e g. h (suc i) e g))

pub none_taken : LookupsTakeNone
none_taken = record { none = λ is_key entries h. none_from is_key entries 0 h; all = λ is_key entries h. all_from is_key entries 0 h }
