-- What a map from names has under a text, where its keys keep the names' bytes.
use Rattle.std.proofs.Common.{◌≡◌, ℕ, Bool, true, false, cond, List, [], ◌∷◌, Option, None, Some, inl, inr, ◌⊎◌, refl, sym, subst, ◌∙◌}
use Rattle.std.specs.Prelude.{Vec}
use Rattle.std.specs.HashMap.{HashMap}
use Rattle.std.specs.Map.{lookup}
use Rattle.std.specs.Str.{bytes_eq}
use Rattle.board_model.proofs.ListLemmas.{same_bytes}
use Rattle.board_index.specs.Boards.{called}

-- a text is that of a key, or nothing stands under it
keyed : {Z : Type 0} (t : List ℕ) (es : List (Vec ℕ Z × ℕ)) → (lookup (λ k. bytes_eq t k.items) es ≡ None) ⊎ ((k : Vec ℕ Z) × (k.items ≡ t))
keyed t [] = inl refl
keyed {Z = Z} t (e ∷ es) = by (bytes_eq t e.0.items) refl (keyed t es)
  where
    by : (b : Bool) → bytes_eq t e.0.items ≡ b → (lookup (λ k. bytes_eq t k.items) es ≡ None) ⊎ ((k : Vec ℕ Z) × (k.items ≡ t))
        → (cond b (Some e.1) (lookup (λ k. bytes_eq t k.items) es) ≡ None) ⊎ ((k : Vec ℕ Z) × (k.items ≡ t))
    by true f rest = inr (e.0, sym (same_bytes t e.0.items f))
    by false f (inl none) = inl none
    by false f (inr key) = inr key

module _ {Z S T : Type 0} (m : HashMap (Vec ℕ Z) ℕ S) (n : HashMap (Vec ℕ Z) ℕ T) where
  -- what is alike at each key is alike at each text
  pub called_same : ((k : Vec ℕ Z) → called n k.items ≡ called m k.items) → (t : List ℕ) → called n t ≡ called m t
  called_same same t = by (keyed t m.entries) (keyed t n.entries)
    where
      by : (called m t ≡ None) ⊎ ((k : Vec ℕ Z) × (k.items ≡ t)) → (called n t ≡ None) ⊎ ((k : Vec ℕ Z) × (k.items ≡ t)) → called n t ≡ called m t
      by (inr key) rest = subst (λ u. called n u ≡ called m u) key.1 (same key.0)
      by (inl none) (inr key) = subst (λ u. called n u ≡ called m u) key.1 (same key.0)
      by (inl none) (inl absent) = absent ∙ sym none

  -- and so where one name has another number, or none
  pub called_turned : (name : List ℕ) (w : Option ℕ) → ((k : Vec ℕ Z) → called n k.items ≡ cond (bytes_eq name k.items) w (called m k.items)) → called n name ≡ w
      → (t : List ℕ) → called n t ≡ cond (bytes_eq name t) w (called m t)
  called_turned name w turned there t = by (keyed t m.entries) (keyed t n.entries)
    where
      neither : called m t ≡ None → called n t ≡ None → (b : Bool) → bytes_eq name t ≡ b → called n t ≡ cond b w (called m t)
      neither none absent true f = subst (λ u. called n u ≡ w) (same_bytes name t f) there
      neither none absent false f = absent ∙ sym none

      by : (called m t ≡ None) ⊎ ((k : Vec ℕ Z) × (k.items ≡ t)) → (called n t ≡ None) ⊎ ((k : Vec ℕ Z) × (k.items ≡ t)) → called n t ≡ cond (bytes_eq name t) w (called m t)
      by (inr key) rest = subst (λ u. called n u ≡ cond (bytes_eq name u) w (called m u)) key.1 (turned key.0)
      by (inl none) (inr key) = subst (λ u. called n u ≡ cond (bytes_eq name u) w (called m u)) key.1 (turned key.0)
      by (inl none) (inl absent) = neither none absent (bytes_eq name t) refl
