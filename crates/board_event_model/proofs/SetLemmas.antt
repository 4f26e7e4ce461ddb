-- Members of a set of ids after a change.
use Rattle.std.proofs.Common.{◌≡◌, ℕ, Bool, true, false, refl, sym, ◌∙◌, ap, ◌⊎◌, inl, inr, subst}
use Rattle.std.specs.Prelude.{◌&&◌, ◌||◌, ◌==◌, not}
use Rattle.std.proofs.lemmas.Bool.{eq-eqb, eqb-true, false≢true}
use Rattle.std.specs.Ordering.{nat_cmp, eq_by_cmp}
use Rattle.std.specs.Cmp.{Equal-is, nat_cmp_total, tied_itself}
use Rattle.std.specs.FinMap.{nat_cmp-IsAntisymmetric}
use Rattle.std.specs.FinSet as set
use Rattle.board_event_model.specs.Ids.{Ids, has}

-- ---- tests

pub or_split : (a b : Bool) → (a || b) ≡ true → (a ≡ true) ⊎ (b ≡ true)
or_split true b h = inl refl
or_split false b h = inr h

pub or_left : (a b : Bool) → a ≡ true → (a || b) ≡ true
or_left true b h = refl
or_left false b h = absurd (false≢true h)

pub or_right : (a b : Bool) → b ≡ true → (a || b) ≡ true
or_right true b h = refl
or_right false b h = h

pub and_split : (a b : Bool) → (a && b) ≡ true → (a ≡ true) × (b ≡ true)
and_split true b h = (refl, h)
and_split false b h = absurd (false≢true h)

pub and_join : (a b : Bool) → a ≡ true → b ≡ true → (a && b) ≡ true
and_join true b h k = k
and_join false b h k = absurd (false≢true h)

pub not_true : (a : Bool) → not a ≡ true → a ≡ false
not_true true h = absurd (false≢true h)
not_true false h = refl

pub is_false : (a : Bool) → (a ≡ true → ⊥) → a ≡ false
is_false true h = absurd (h refl)
is_false false h = refl

pub either : (a : Bool) → (a ≡ true) ⊎ (a ≡ false)
either true = inl refl
either false = inr refl

-- ---- members

tied : (q k : ℕ) → eq_by_cmp nat_cmp q k ≡ true → q ≡ k
tied q k h = nat_cmp-IsAntisymmetric q k ((Equal-is (nat_cmp q k)).0 h)

tied_self : (k : ℕ) → eq_by_cmp nat_cmp k k ≡ true
tied_self k = (Equal-is (nat_cmp k k)).1 (tied_itself nat_cmp_total k)

-- keys are tied exactly where they are one
pub same_id : (k q : ℕ) → eq_by_cmp nat_cmp q k ≡ (k == q)
same_id k q = at (eq_by_cmp nat_cmp q k) refl
  where
    at : (b : Bool) → eq_by_cmp nat_cmp q k ≡ b → b ≡ (k == q)
    at true h = sym (eq-eqb k q (sym (tied q k h)))
    at false h = sym (is_false (k == q) (λ e. false≢true (sym h ∙ subst (λ (x : ℕ). eq_by_cmp nat_cmp q x ≡ true) (sym (eqb-true k q e)) (tied_self q))))

pub has_inserted : (s : Ids) (k q : ℕ) → has (set.insert s k) q ≡ true → (q ≡ k) ⊎ (has s q ≡ true)
has_inserted s k q h =
    elim (or_split _ _ (sym (set.contains-insert nat_cmp_total s k q) ∙ h)) [ inl e ↦ inl (tied q k e) | inr o ↦ inr o ]

pub has_itself : (s : Ids) (k : ℕ) → has (set.insert s k) k ≡ true
has_itself s k = set.contains-insert nat_cmp_total s k k ∙ or_left _ _ (tied_self k)

pub has_kept : (s : Ids) (k q : ℕ) → has s q ≡ true → has (set.insert s k) q ≡ true
has_kept s k q h = set.contains-insert nat_cmp_total s k q ∙ or_right _ _ h

pub has_removed : (s : Ids) (k q : ℕ) → has (set.remove s k) q ≡ true → (q ≡ k → ⊥) × (has s q ≡ true)
has_removed s k q h =
    let w = and_split _ _ (sym (set.contains-remove nat_cmp_total s k q) ∙ h) in
    ((λ (e : q ≡ k). false≢true (sym (not_true _ w.0) ∙ subst (λ (x : ℕ). eq_by_cmp nat_cmp q x ≡ true) e (tied_self q))), w.1)

pub has_left : (s : Ids) (k q : ℕ) → has s q ≡ true → (q ≡ k) ⊎ (has (set.remove s k) q ≡ true)
has_left s k q h =
    elim (either (eq_by_cmp nat_cmp q k)) [
      | inl e ↦ inl (tied q k e)
      | inr o ↦ inr (set.contains-remove nat_cmp_total s k q ∙ and_join _ _ (ap not o) h)
    ]

pub has_retained : (s : Ids) (p : ℕ → Bool) (q : ℕ) → has (set.retain s p) q ≡ true → (has s q ≡ true) × (p q ≡ true)
has_retained s p q h =
    and_split _ _ (sym (set.contains-retain s p q (λ x e. ap p (sym (nat_cmp-IsAntisymmetric q x e)))) ∙ h)

pub has_retain : (s : Ids) (p : ℕ → Bool) (q : ℕ) → has s q ≡ true → p q ≡ true → has (set.retain s p) q ≡ true
has_retain s p q h k =
    set.contains-retain s p q (λ x e. ap p (sym (nat_cmp-IsAntisymmetric q x e))) ∙ and_join _ _ h k

pub has_empty : (q : ℕ) → has set.empty q ≡ true → ⊥
has_empty q h = false≢true (sym (set.contains-empty nat_cmp q) ∙ h)
