-- Things under their numbers, as things come and go.
use Rattle.std.proofs.Common.{◌≡◌, ◌≢◌, ℕ, ◌+◌, ◌-◌, ◌≤◌, ◌<◌, ◌^◌, Bool, true, false, cond, ◌==◌, [], ◌∷◌, ◌++◌, length, Option, Some, None, refl, sym, ap, subst, ◌∙◌, arith}
use Rattle.std.specs.Prelude.{find, nat_eq, IfSome}
use Rattle.board_model.specs.declared.tables.Thing.{Thing}
use Rattle.board_model.specs.Tables.{without_first}
use Rattle.board_numbered.specs.Standing.{standing}
use Rattle.board_numbered.proofs.Standing.{Picks, few, found_standing, is_same, standing_more, without_standing}
use Rattle.board_things.specs.Kept.{AreNumbered, IsNumbered}
use Rattle.board_things.specs.Things.{is_thing}

not_true : (b : Bool) → (b ≡ true → ⊥) → b ≡ false
not_true true f = absurd (f refl)
not_true false f = refl

abbrev thing_in : Option (Thing ℕ ℕ) → Option (Thing ℕ ℕ)
thing_in o = o

-- another number
unequal : (n k : ℕ) → n ≢ k → nat_eq k n ≡ false
unequal n k other = not_true (nat_eq k n) (λ z. other (sym (is_same k n z)))

same : (n : ℕ) → nat_eq n n ≡ true
same n = (let yes : nat_eq n n ≡ true = grind arith in yes)

-- fewer stand than there are numbers
pub few_things : (things : ℕ → Option (Thing ℕ ℕ)) (last : ℕ) {n : ℕ} → last ≡ n → n < 2 ^ 64 - 2 → length (standing things last) < 2 ^ 64 - 2
few_things things last e below = omega (arith, below, e, few things last)

module _ {things : ℕ → Option (Thing ℕ ℕ)} {last : ℕ} (h : AreNumbered things last) where
  thing_at : (number : ℕ) (t : Thing ℕ ℕ) → things number ≡ Some t → IsNumbered last number t
  thing_at number t e = subst (λ (o : Option (Thing ℕ ℕ)). IfSome o (IsNumbered last number)) e (h.each number)

  none_at : (number : ℕ) → ((t : Thing ℕ ℕ) → IsNumbered last number t → ⊥) → things number ≡ None
  none_at number not = by (things number) refl
    where
      by : (o : Option (Thing ℕ ℕ)) → things number ≡ o → o ≡ None
      by None e = refl
      by (Some t) e = absurd (not t (thing_at number t e))

  zero_free : things 0 ≡ None
  zero_free = none_at 0 (λ t r. (let low : 0 < 0 = r.above in omega (arith, low)))

  above_free : (number : ℕ) → last < number → things number ≡ None
  above_free number lt = none_at number (λ t r. (let high : number ≤ last = r.drawn in omega (arith, high, lt)))

  picks : (number : ℕ) → Picks (is_thing number) number things
  picks number n t e = ap (λ (m : ℕ). m == number) (thing_at n t e).numbered

  -- the thing with a number
  pub found : (number : ℕ) → find (is_thing number) (standing things last) ≡ things number
  found number = found_standing (is_thing number) number things last (picks number) zero_free above_free

  -- the same things
  pub numbered_same : {new : ℕ → Option (Thing ℕ ℕ)} → ((n : ℕ) → new n ≡ things n) → AreNumbered new last
  numbered_same are = record { each = λ n. subst (λ (o : Option (Thing ℕ ℕ)). IfSome o (IsNumbered last n)) (sym (are n)) (h.each n) }

  -- one thing more, under the next number
  module _ {new : ℕ → Option (Thing ℕ ℕ)} (t : Thing ℕ ℕ) (name : t.name ≡ last + 1) (are : (n : ℕ) → new n ≡ cond (nat_eq (last + 1) n) (Some t) (things n)) where
    pub numbered_more : AreNumbered new (last + 1)
    numbered_more = record { each = λ n. subst (λ (o : Option (Thing ℕ ℕ)). IfSome o (IsNumbered (last + 1) n)) (sym (are n)) (by n (nat_eq (last + 1) n) refl (things n) refl) }
      where
        by : (n : ℕ) (b : Bool) → nat_eq (last + 1) n ≡ b → (o : Option (Thing ℕ ℕ)) → things n ≡ o → IfSome (cond b (Some t) o) (IsNumbered (last + 1) n)
        by n true g o e = let s : last + 1 ≡ n = is_same (last + 1) n g in record { numbered = name ∙ s; above = omega (arith, s); drawn = omega (arith, s) }
        by n false g None e = tt
        by n false g (Some x) e =
            let r = thing_at n x e in
            let drawn : n ≤ last = r.drawn in
            record { numbered = r.numbered; above = r.above; drawn = omega (arith, drawn) }

    pub pushed : standing new (last + 1) ≡ standing things last ++ t ∷ []
    pushed =
        standing_more things new last (last + 1) t refl
        (are (last + 1) ∙ ap (λ (b : Bool). cond b (Some t) (things (last + 1))) (same (last + 1)))
        (λ n other. are n ∙ ap (λ (b : Bool). cond b (Some t) (things n)) (unequal n (last + 1) other))

  -- one thing less
  module _ {new : ℕ → Option (Thing ℕ ℕ)} (number : ℕ) (are : (n : ℕ) → new n ≡ cond (nat_eq number n) None (things n)) where
    pub numbered_less : AreNumbered new last
    numbered_less = record { each = λ n. subst (λ (o : Option (Thing ℕ ℕ)). IfSome o (IsNumbered last n)) (sym (are n)) (by n (nat_eq number n)) }
      where
        by : (n : ℕ) (b : Bool) → IfSome (cond b None (things n)) (IsNumbered last n)
        by n true = tt
        by n false = h.each n

    pub taken : standing new last ≡ without_first (is_thing number) (standing things last)
    taken =
        sym (without_standing (is_thing number) number things new last (picks number)
        (are number ∙ ap (λ (b : Bool). cond b (thing_in None) (things number)) (same number))
        (λ n other. are n ∙ ap (λ (b : Bool). cond b (thing_in None) (things n)) (unequal n number other)))
