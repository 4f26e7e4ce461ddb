-- The first entry with a key, by the places that a map has of the keys' bytes.
use Rattle.std.proofs.Common.{◌≡◌, ℕ, suc, ◌+◌, Bool, true, false, cond, List, [], ◌∷◌, take, Option, Some, None, refl, sym, ap, ◌∙◌, arith, ◌⊎◌, inl, inr}
use Rattle.std.specs.Prelude.{option_map, slice_get}
use Rattle.std.specs.Cmp.{IsEquivalence}
use Rattle.std.specs.List.{AllByRecursion, position_from}
use Rattle.std.specs.Str.{bytes_eq}
use Rattle.board_layout.specs.Keys.{IsEqualByBytes, IsKeyBytes, ReadsAs, is_key, key_value, words_in}
use Rattle.board_model.specs.declared.tables.Entry.{Entry}
use Rattle.board_model.specs.Tables.{entry_from}
use Rattle.board_model.proofs.ListLemmas.{other_bytes, same_bytes}
use Rattle.board_index.specs.KeyPlaces.{AreKeyPlaces, has_bytes, is_of_bytes}

-- with one entry more before them
pub placed_more : (size n at : ℕ) (name : List ℕ) (e : Entry) (entries : List Entry) (old new : List ℕ → Option ℕ) → at ≡ n + 1 → name ≡ take size e.key.bytes → IsKeyBytes e.key.bytes
    → ((t : List ℕ) → new t ≡ cond (bytes_eq name t) (Some n) (old t)) → AreKeyPlaces size at entries old → AreKeyPlaces size n (e ∷ entries) new
placed_more size n at name e entries old new next named bytes turned h = record {
  first = λ t. turned t
      ∙ ap (λ (s : List ℕ). cond (bytes_eq s t) (Some n) (old t)) named
      ∙ ap (λ (o : Option ℕ). cond (is_of_bytes size t e) (Some n) o) (h.first t ∙ ap (λ (m : ℕ). position_from (is_of_bytes size t) m entries) next);
  each = (bytes, h.each);
}

chosen : {A : Type 0} (b : Bool) (x y z : A) → cond b x y ≡ z → ((b ≡ true) × (x ≡ z)) ⊎ ((b ≡ false) × (y ≡ z))
chosen true x y z e = inl (refl, e)
chosen false x y z e = inr (refl, e)

abbrev a_number : ℕ → Option ℕ
a_number n = Some n

-- an entry at a place
abbrev pub placed : ℕ → Entry → ℕ × Entry
placed k e = (k, e)

module _ (p : List ℕ → Bool) where
  abbrev passes : Entry → Bool
  passes e = p e.key.bytes

  found_from : (i k : ℕ) (es : List Entry) → position_from passes i es ≡ Some k → (j : ℕ) × (k ≡ j + i) × (entry_from i p es ≡ option_map (placed k) (slice_get es j))
  found_from i k [] e = absurd cc
  found_from i k (x ∷ es) e =
      elim (chosen (p x.key.bytes) (Some i) (position_from passes (i + 1) es) (Some k) e) [
        | inl h ↦ (let s : a_number i ≡ a_number k = h.1 in let q : i ≡ k = cc in (0, omega (arith, q), rw h.0 (ap (λ (m : ℕ). Some (placed m x)) q)))
        | inr h ↦
            let more = found_from (i + 1) k es h.1 in
            (suc more.0, omega (arith, more.1), rw h.0 more.2)
      ]

  none_from : (i : ℕ) (es : List Entry) → position_from passes i es ≡ None → entry_from i p es ≡ None
  none_from i [] e = refl
  none_from i (x ∷ es) e =
      elim (chosen (p x.key.bytes) (Some i) (position_from passes (i + 1) es) None e) [
        | inl h ↦ absurd (let s : a_number i ≡ None = h.1 in cc)
        | inr h ↦ rw h.0 (none_from (i + 1) es h.1)
      ]

  found_at : (k : ℕ) (es : List Entry) → position_from passes 0 es ≡ Some k → entry_from 0 p es ≡ option_map (placed k) (slice_get es k)
  found_at k es e =
      let f = found_from 0 k es e in
      let q : k ≡ f.0 = omega (arith, f.1) in
      f.2 ∙ ap (λ (j : ℕ). option_map (placed k) (slice_get es j)) (sym q)

-- the first entry with the same bytes
module _ {size : ℕ} {es : List Entry} {places : List ℕ → Option ℕ} (h : AreKeyPlaces size 0 es places) (key : List ℕ) where
  pub found_placed : (k : ℕ) → places (take size key) ≡ Some k → entry_from 0 (has_bytes size key) es ≡ option_map (placed k) (slice_get es k)
  found_placed k e = found_at (has_bytes size key) k es (sym (h.first (take size key)) ∙ e)

  pub none_placed : places (take size key) ≡ None → entry_from 0 (has_bytes size key) es ≡ None
  none_placed e = none_from (has_bytes size key) 0 es (sym (h.first (take size key)) ∙ e)

not_true : (b : Bool) → (b ≡ true → ⊥) → b ≡ false
not_true true f = absurd (f refl)
not_true false f = refl

-- where equal keys have the same bytes, the entry with the same bytes is the one with an equal key
module _ {K : Type 0} (eq : K → K → Bool) (value_of : List ℕ → K) (size words : ℕ) (laws : IsEquivalence eq) (exact : IsEqualByBytes eq value_of size words)
    (key : K) (m : List ℕ) (valid : IsKeyBytes m) (reads : ReadsAs value_of size words m key) where
  one_key : (k : List ℕ) → IsKeyBytes k → has_bytes size m k ≡ is_key eq value_of size words key k
  one_key k bytes = by (has_bytes size m k) refl
    where
      by : (b : Bool) → has_bytes size m k ≡ b → b ≡ is_key eq value_of size words key k
      by true e =
          let value : key_value value_of size words k ≡ key = ap (λ (l : List ℕ). value_of (words_in words l)) (same_bytes (take size k) (take size m) e) ∙ reads in
          sym (ap (λ (x : K). eq x key) value ∙ laws.refl key)
      by false e = sym (not_true (is_key eq value_of size words key k)
          (λ t. other_bytes (take size k) (take size m) e (exact k m bytes valid (ap (λ (x : K). eq (key_value value_of size words k) x) reads ∙ t))))

  pub same_entry : (i : ℕ) (es : List Entry) → AllByRecursion (λ e. IsKeyBytes e.key.bytes) es → entry_from i (has_bytes size m) es ≡ entry_from i (is_key eq value_of size words key) es
  same_entry i [] h = refl
  same_entry i (e ∷ es) h =
      ap (λ (b : Bool). cond b (Some (placed i e)) (entry_from (i + 1) (has_bytes size m) es)) (one_key e.key.bytes h.0)
      ∙ ap (λ (o : Option (ℕ × Entry)). cond (is_key eq value_of size words key e.key.bytes) (Some (placed i e)) o) (same_entry (i + 1) es h.1)
