-- Keys that were met, by which equal ones are found.
use Rattle.std.proofs.Common.{◌≡◌, ℕ, Bool, true, false, List, [], ◌∷◌, ◌++◌, map, refl, sym, ap, ◌∙◌}
use Rattle.std.specs.Prelude.{◌||◌}
use Rattle.std.specs.Cmp.{IsEquivalence}
use Rattle.std.specs.List.{list_any}
use Rattle.std.specs.List.Sorted.{IsPermutation}
use Rattle.std.proofs.lemmas.List.Sorted.{list_any-IsPermutation}
use Rattle.board_model.specs.Tables.{Added, has_equal_keys, has_key}

module _ {K : Type 0} (eq : K → K → Bool) (value : List ℕ → K) where
  -- whether two keys have equal values
  abbrev pub same : List ℕ → List ℕ → Bool
  same a b = eq (value a) (value b)

  -- the values of keys
  abbrev pub values_of : List Added → List K
  values_of entries = map (λ (a : Added). value a.key) entries

  -- a value is equal to one that was met where it is equal to one of these entries' keys
  abbrev pub AreMet : List K → List Added → Type 0
  AreMet met entries = (q : K) → list_any (eq q) met ≡ list_any (eq q) (values_of entries)

  pub meets_more : (a : Added) (entries : List Added) (met more : List K) → IsPermutation (value a.key ∷ met) more → AreMet met entries → AreMet more (a ∷ entries)
  meets_more a entries met more p m q = sym (list_any-IsPermutation (eq q) _ _ p) ∙ ap (λ (b : Bool). eq q (value a.key) || b) (m q)

  is_key_among : IsEquivalence eq → (k : List ℕ) (entries : List Added) → list_any (eq (value k)) (values_of entries) ≡ has_key same k entries
  is_key_among laws k [] = refl
  is_key_among laws k (a ∷ entries) = ap (λ (b : Bool). b || list_any (eq (value k)) (values_of entries)) (laws.symm (value k) (value a.key)) ∙ ap (λ (b : Bool). eq (value a.key) (value k) || b) (is_key_among laws k entries)

  -- whether an entry's key was met
  pub was_met : IsEquivalence eq → (a : Added) (entries : List Added) (met : List K) → AreMet met entries → list_any (eq (value a.key)) met ≡ has_key same a.key entries
  was_met laws a entries met m = m (value a.key) ∙ is_key_among laws a.key entries

  pub still_differ : (a : Added) (entries : List Added) → has_key same a.key entries ≡ false → has_equal_keys same entries ≡ false → has_equal_keys same (a ∷ entries) ≡ false
  still_differ a entries e f = ap (λ (b : Bool). b || has_equal_keys same entries) e ∙ f

-- whatever stands before equal keys
pub equal_behind : (t : List ℕ → List ℕ → Bool) (front : List Added) (a : Added) (entries : List Added) → has_key t a.key entries ≡ true → has_equal_keys t (front ++ a ∷ entries) ≡ true
equal_behind t [] a entries e = ap (λ (b : Bool). b || has_equal_keys t entries) e
equal_behind t (f ∷ front) a entries e = ap (λ (b : Bool). has_key t f.key (front ++ a ∷ entries) || b) (equal_behind t front a entries e) ∙ or_true (has_key t f.key (front ++ a ∷ entries))
  where
    or_true : (b : Bool) → (b || true) ≡ true
    or_true true = refl
    or_true false = refl
