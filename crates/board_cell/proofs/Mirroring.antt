-- Each step keeps the one view equal to the words.
use Rattle.std.proofs.Common.{◌≡◌, ℕ, zero, suc, List, [], ◌∷◌, get_or, set, sym, refl, ap, subst}
use mathlib.Core.Option.{none, some, some-injective, some-ne-none}
use lib.ListN.{get_elem?}
use lib.Seq.{set-get_or}
use Rattle.atomic_table.specs.Table.{Me, step, keeps, Allows}
use Rattle.board_cell.specs.Mirror.{Mirrors, loaded, stored}

only : (xs v : List ℕ) (views : List (List ℕ)) (id : ℕ) → views ≡ xs ∷ [] → get_elem? views id ≡ some v → (id ≡ 0) × (v ≡ xs)
only xs v views id is at = here id (subst (λ (l : List (List ℕ)). get_elem? l id ≡ some v) is at)
  where
    here : (id : ℕ) → get_elem? (xs ∷ []) id ≡ some v → (id ≡ 0) × (v ≡ xs)
    here zero e = (refl, sym (some-injective xs v e))
    here (suc i) e = absurd (some-ne-none v (sym e))

pub loads : (slots id : ℕ) (me : Me (Unit {0}) (List ℕ)) (i : ℕ) → Allows Mirrors slots id me i (λ x. x) (loaded (step slots i 0 0 none) me)
loads slots id me i s r _ at _ = let o = only s.words me.0 s.views id r at in (
  me.0,
  keeps,
  tt,
  subst (λ (ws : List ℕ). set s.views id me.0 ≡ ws ∷ []) (sym (set-get_or s.words i 0)) (subst (λ (k : ℕ). set s.views k me.0 ≡ s.words ∷ []) (sym o.0) (subst (λ (l : List (List ℕ)). set l 0 me.0 ≡ s.words ∷ []) (sym r) (ap (λ (v : List ℕ). v ∷ []) o.1))),
  (ap (λ (v : List ℕ). get_or v i 0) (sym o.1), refl),
)

pub stores : (slots id : ℕ) (me : Me (Unit {0}) (List ℕ)) (i n : ℕ) → Allows Mirrors slots id me i (λ _. n) (λ _. stored (step slots i n 0 none) me n)
stores slots id me i n s r _ at _ = let o = only s.words me.0 s.views id r at in let w : List ℕ = set me.0 i n in (
  w,
  keeps,
  tt,
  subst (λ (k : ℕ). set s.views k w ≡ set s.words i n ∷ []) (sym o.0) (subst (λ (l : List (List ℕ)). set l 0 w ≡ set s.words i n ∷ []) (sym r) (ap (λ (v : List ℕ). set v i n ∷ []) o.1)),
  refl,
)
