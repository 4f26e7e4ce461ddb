-- What stands beside the first element that passes a test, as elements come and go.
use Rattle.std.proofs.Common.{◌≡◌, ℕ, zero, suc, ◌+◌, Bool, true, false, cond, List, [], ◌∷◌, ◌++◌, length, Option, Some, None, refl, ap, ◌∙◌, arith}
use Rattle.std.specs.Prelude.{◌||◌, find, is_some, option_map}
use Rattle.std.specs.List.{position_from, list_any}
use Rattle.board_model.specs.Tables.{without_first, holds_at}
use Rattle.board_service.specs.Domain.{at, but_at, set_at}
use Rattle.board_service.proofs.DrawnLemmas.{there}

-- what stands beside the first that passes the test
abbrev pub beside : {A C : Type 0} → (A → Bool) → List A → List C → Option C
beside p [] cs = None
beside p (x ∷ xs) [] = None
beside p (x ∷ xs) (c ∷ cs) = cond (p x) (Some c) (beside p xs cs)

at_nil : {C : Type 0} (o : Option ℕ) → at {A = C} [] o ≡ None
at_nil None = refl
at_nil (Some i) = refl

at_behind : {C : Type 0} (c : C) (cs : List C) (o : Option ℕ) → at (c ∷ cs) (option_map suc o) ≡ at cs o
at_behind c cs None = refl
at_behind c cs (Some i) = refl

set_nil : {C : Type 0} (o : Option ℕ) (z : C) → set_at [] o z ≡ []
set_nil None z = refl
set_nil (Some i) z = refl

set_behind : {C : Type 0} (c : C) (cs : List C) (o : Option ℕ) (z : C) → set_at (c ∷ cs) (option_map suc o) z ≡ c ∷ set_at cs o z
set_behind c cs None z = refl
set_behind c cs (Some i) z = refl

but_nil : {C : Type 0} (o : Option ℕ) → but_at {A = C} [] o ≡ []
but_nil None = refl
but_nil (Some zero) = refl
but_nil (Some (suc i)) = refl

but_behind : {C : Type 0} (c : C) (cs : List C) (o : Option ℕ) → but_at (c ∷ cs) (option_map suc o) ≡ c ∷ but_at cs o
but_behind c cs None = refl
but_behind c cs (Some i) = refl

position_behind : {A : Type 0} (p : A → Bool) (i : ℕ) (xs : List A) → position_from p (i + 1) xs ≡ option_map suc (position_from p i xs)
position_behind p i [] = refl
position_behind {A = A} p i (x ∷ xs) = elim (p x) as (λ b. cond b (there (i + 1)) (position_from p (i + 1 + 1) xs) ≡ option_map suc (cond b (there i) (position_from p (i + 1) xs))) [
  | true ↦ (let next : i + 1 ≡ suc i = omega arith in ap there next)
  | false ↦ position_behind p (i + 1) xs
]

module _ {A C : Type 0} (p : A → Bool) where
  -- so it is found
  pub is_beside : (xs : List A) (cs : List C) → at cs (position_from p 0 xs) ≡ beside p xs cs
  is_beside [] cs = refl
  is_beside (x ∷ xs) [] = at_nil (position_from p 0 (x ∷ xs))
  is_beside (x ∷ xs) (c ∷ cs) = elim (p x) as (λ b. at (c ∷ cs) (cond b (there 0) (position_from p 1 xs)) ≡ cond b (there c) (beside p xs cs)) [
    | true ↦ refl
    | false ↦ ap (at (c ∷ cs)) (position_behind p 0 xs) ∙ at_behind c cs (position_from p 0 xs) ∙ is_beside xs cs
  ]

  -- where none passes there is none
  pub beside_none : (xs : List A) (cs : List C) → find p xs ≡ None → beside p xs cs ≡ None
  beside_none [] cs e = refl
  beside_none (x ∷ xs) [] e = refl
  beside_none (x ∷ xs) (c ∷ cs) e = elim (p x) as (λ b. cond b (there x) (find p xs) ≡ None → cond b (there c) (beside p xs cs) ≡ None) [
    | true ↦ λ f. absurd cc
    | false ↦ λ f. beside_none xs cs f
  ] e

  -- with one more at the end
  pub beside-push : (xs : List A) (cs : List C) (x : A) (c : C) → length cs ≡ length xs → beside p (xs ++ x ∷ []) (cs ++ c ∷ []) ≡ cond (is_some (find p xs)) (beside p xs cs) (cond (p x) (there c) None)
  beside-push [] [] x c e = refl
  beside-push [] (d ∷ ds) x c e = absurd (omega (arith, e))
  beside-push (y ∷ ys) [] x c e = absurd (omega (arith, e))
  beside-push (y ∷ ys) (d ∷ ds) x c e = elim (p y) as (λ b. cond b (there d) (beside p (ys ++ x ∷ []) (ds ++ c ∷ [])) ≡ cond (is_some (cond b (there y) (find p ys))) (cond b (there d) (beside p ys ds)) (cond (p x) (there c) None)) [
    | true ↦ refl
    | false ↦ beside-push ys ds x c (omega (arith, e))
  ]

  -- with another in its place
  pub beside-set : (xs : List A) (cs : List C) (z : C) → beside p xs (set_at cs (position_from p 0 xs) z) ≡ option_map (λ c. z) (beside p xs cs)
  beside-set [] cs z = refl
  beside-set (x ∷ xs) [] z = ap (beside p (x ∷ xs)) (set_nil (position_from p 0 (x ∷ xs)) z)
  beside-set (x ∷ xs) (c ∷ cs) z = elim (p x) as (λ b. p x ≡ b → beside p (x ∷ xs) (set_at (c ∷ cs) (cond b (there 0) (position_from p 1 xs)) z) ≡ option_map (λ d. z) (cond b (there c) (beside p xs cs))) [
    | true ↦ λ h. rw h refl
    | false ↦ λ h. ap (λ o. beside p (x ∷ xs) (set_at (c ∷ cs) o z)) (position_behind p 0 xs) ∙ ap (beside p (x ∷ xs)) (set_behind c cs (position_from p 0 xs) z) ∙ (rw h (beside-set xs cs z))
  ] refl

module _ {A C : Type 0} (p q : A → Bool) (apart : (x : A) → p x ≡ true → q x ≡ false) where
  -- with another in another's place
  pub beside-set-other : (xs : List A) (cs : List C) (z : C) → beside q xs (set_at cs (position_from p 0 xs) z) ≡ beside q xs cs
  beside-set-other [] cs z = refl
  beside-set-other (x ∷ xs) [] z = ap (beside q (x ∷ xs)) (set_nil (position_from p 0 (x ∷ xs)) z)
  beside-set-other (x ∷ xs) (c ∷ cs) z = elim (p x) as (λ b. p x ≡ b → beside q (x ∷ xs) (set_at (c ∷ cs) (cond b (there 0) (position_from p 1 xs)) z) ≡ cond (q x) (there c) (beside q xs cs)) [
    | true ↦ λ h. let other = apart x h in rw other refl
    | false ↦ λ h. ap (λ o. beside q (x ∷ xs) (set_at (c ∷ cs) o z)) (position_behind p 0 xs) ∙ ap (beside q (x ∷ xs)) (set_behind c cs (position_from p 0 xs) z) ∙ ap (λ o. cond (q x) (there c) o) (beside-set-other xs cs z)
  ] refl

  -- without another
  pub beside-without-other : (xs : List A) (cs : List C) → beside q (without_first p xs) (but_at cs (position_from p 0 xs)) ≡ beside q xs cs
  beside-without-other [] cs = refl
  beside-without-other (x ∷ xs) [] = none (without_first p (x ∷ xs)) (but_at [] (position_from p 0 (x ∷ xs))) (but_nil (position_from p 0 (x ∷ xs)))
    where
      none : (ys : List A) (ds : List C) → ds ≡ [] → beside q ys ds ≡ None
      none [] ds e = refl
      none (y ∷ ys) [] e = refl
      none (y ∷ ys) (d ∷ ds) e = absurd cc
  beside-without-other (x ∷ xs) (c ∷ cs) = elim (p x) as (λ b. p x ≡ b → beside q (cond b xs (x ∷ without_first p xs)) (but_at (c ∷ cs) (cond b (there 0) (position_from p 1 xs))) ≡ cond (q x) (there c) (beside q xs cs)) [
    | true ↦ λ h. let other = apart x h in rw other refl
    | false ↦ λ h. ap (λ o. beside q (x ∷ without_first p xs) (but_at (c ∷ cs) o)) (position_behind p 0 xs) ∙ ap (beside q (x ∷ without_first p xs)) (but_behind c cs (position_from p 0 xs)) ∙ ap (λ o. cond (q x) (there c) o) (beside-without-other xs cs)
  ] refl

-- ---- tests over a list

-- what none passes with one more, none passes without it, nor that one
pub none_before : {X : Type 0} (p : X → Bool) (xs : List X) (x : X) → list_any p (xs ++ x ∷ []) ≡ false → (list_any p xs ≡ false) × (p x ≡ false)
none_before p [] x e = elim (p x) as (λ b. list_any p (x ∷ []) ≡ false → p x ≡ b → (false ≡ false) × (b ≡ false)) [
  | true ↦ λ f h. (let t : list_any p (x ∷ []) ≡ true = rw h refl in absurd cc)
  | false ↦ λ f h. (refl, refl)
] e refl
none_before p (y ∷ ys) x e = step (p y) e (none_before p ys x)
  where
    step : (b : Bool) → (b || list_any p (ys ++ x ∷ [])) ≡ false → (list_any p (ys ++ x ∷ []) ≡ false → (list_any p ys ≡ false) × (p x ≡ false)) → ((b || list_any p ys) ≡ false) × (p x ≡ false)
    step true f rest = absurd cc
    step false f rest = rest f

-- without one that fails the test, the test holds of one as before
pub any_without : {X : Type 0} (p q : X → Bool) (xs : List X) → holds_at (find q xs) p ≡ false → list_any p (without_first q xs) ≡ list_any p xs
any_without p q [] h = refl
any_without p q (x ∷ xs) h =
    elim (q x) as (λ b. holds_at (cond b (there x) (find q xs)) p ≡ false → list_any p (cond b xs (x ∷ without_first q xs)) ≡ list_any p (x ∷ xs)) [
      | true ↦ λ e. let no : p x ≡ false = e in rw no refl
      | false ↦ λ e. ap (λ b. p x || b) (any_without p q xs e)
    ] h
