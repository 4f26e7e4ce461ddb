-- Numbers that were drawn one after another, and lists whose numbers differ.
use Rattle.std.proofs.Common.{◌≡◌, ◌≢◌, ℕ, ◌+◌, ◌≤◌, ◌<◌, Bool, true, false, cond, ◌==◌, List, [], ◌∷◌, ◌++◌, refl, sym, ap, subst, ◌∙◌, Option, Some, None, arith}
use Rattle.std.specs.Prelude.{find}
use Rattle.board_model.specs.Tables.{without_first}
use Rattle.board_service.specs.Facts.{AreDrawn}

abbrev pub there : {X : Type 0} → X → Option X
there x = Some x

pub numbered_other : (n m : ℕ) → n ≢ m → (m == n) ≡ false
numbered_other n m d = elim (m == n) as (λ b. (m == n) ≡ b → b ≡ false) [ true ↦ λ h. absurd (d (grind (arith, h))) | false ↦ λ h. refl ] refl

module _ {A : Type 0} (number : A → ℕ) (has : ℕ → A → Bool) (same : (n : ℕ) (x : A) → has n x ≡ (number x == n)) where
  has_other : (n : ℕ) (x : A) → n ≢ number x → has n x ≡ false
  has_other n x d = same n x ∙ numbered_other n (number x) d

  has_own : (n : ℕ) (x : A) → n ≡ number x → has n x ≡ true
  has_own n x e = let t : (number x == n) ≡ true = grind (arith, e) in same n x ∙ t

  is_own : (n : ℕ) (x : A) → has n x ≡ true → number x ≡ n
  is_own n x h = let t : (number x == n) ≡ true = sym (same n x) ∙ h in grind (arith, t)

  -- a number that wasn't drawn is nobody's
  pub none_above : (last n : ℕ) (xs : List A) → AreDrawn number has last xs → last < n → find (has n) xs ≡ None
  none_above last n [] h lt = refl
  none_above last n (x ∷ xs) h lt =
      let other : has n x ≡ false = has_other n x (λ e. absurd (let le : number x ≤ last = h.0 in omega (arith, le, lt, e))) in
      rw (other) (none_above last n xs h.2 lt)

  pub find-push-other : (n : ℕ) (xs : List A) (y : A) → n ≢ number y → find (has n) (xs ++ y ∷ []) ≡ find (has n) xs
  find-push-other n [] y d = rw (has_other n y d) refl
  find-push-other n (x ∷ xs) y d = ap (λ (o : Option A). cond (has n x) (there x) o) (find-push-other n xs y d)

  pub find-push : (n : ℕ) (xs : List A) (y : A) → n ≡ number y → find (has n) xs ≡ None → find (has n) (xs ++ y ∷ []) ≡ Some y
  find-push n [] y e none = rw (has_own n y e) refl
  find-push n (x ∷ xs) y e none =
      elim (has n x) as (λ c. cond c (there x) (find (has n) xs) ≡ None → cond c (there x) (find (has n) (xs ++ y ∷ [])) ≡ Some y) [
        | true ↦ λ h. absurd cc
        | false ↦ λ h. find-push n xs y e h
      ] none

  -- one more, with the next number
  pub drawn_more : (last : ℕ) (xs : List A) (y : A) → AreDrawn number has last xs → number y ≡ last + 1 → AreDrawn number has (last + 1) (xs ++ y ∷ [])
  drawn_more last [] y h e = (omega (arith, e), refl, tt)
  drawn_more last (x ∷ xs) y h e =
      let small : number x ≤ last = h.0 in
      (omega (arith, small), find-push-other (number x) xs y (λ d. absurd (omega (arith, small, e, d))) ∙ h.1, drawn_more last xs y h.2 e)

  pub find-without-other : (n m : ℕ) (xs : List A) → m ≢ n → find (has m) (without_first (has n) xs) ≡ find (has m) xs
  find-without-other n m [] d = refl
  find-without-other n m (x ∷ xs) d =
      elim (has n x) as (λ c. has n x ≡ c → find (has m) (cond c xs (x ∷ without_first (has n) xs)) ≡ find (has m) (x ∷ xs)) [
        | true ↦ λ h. let other : has m x ≡ false = has_other m x (λ e. d (e ∙ is_own n x h)) in rw other refl
        | false ↦ λ h. ap (λ (o : Option A). cond (has m x) (there x) o) (find-without-other n m xs d)
      ] refl

  pub find-without : (last n : ℕ) (xs : List A) → AreDrawn number has last xs → find (has n) (without_first (has n) xs) ≡ None
  find-without last n [] h = refl
  find-without last n (x ∷ xs) h =
      elim (has n x) as (λ c. has n x ≡ c → find (has n) (cond c xs (x ∷ without_first (has n) xs)) ≡ None) [
        | true ↦ λ e. subst (λ z. find (has z) xs ≡ None) (is_own n x e) h.1
        | false ↦ λ e. rw e (find-without last n xs h.2)
      ] refl

-- what isn't found isn't found in a part
pub none_without : {A : Type 0} (p q : A → Bool) (xs : List A) → find p xs ≡ None → find p (without_first q xs) ≡ None
none_without p q [] free = refl
none_without p q (x ∷ xs) free =
    elim (p x) as (λ c. p x ≡ c → cond c (there x) (find p xs) ≡ None → find p (cond (q x) xs (x ∷ without_first q xs)) ≡ None) [
      | true ↦ λ h f. absurd cc
      | false ↦ λ h f. elim (q x) as (λ c. find p (cond c xs (x ∷ without_first q xs)) ≡ None) [ true ↦ f | false ↦ rw h (none_without p q xs f) ]
    ] refl free

pub drawn_without : {A : Type 0} (number : A → ℕ) (has : ℕ → A → Bool) (q : A → Bool) (last : ℕ) (xs : List A) → AreDrawn number has last xs → AreDrawn number has last (without_first q xs)
drawn_without number has q last [] h = tt
drawn_without number has q last (x ∷ xs) h =
    elim (q x) as (λ c. AreDrawn number has last (cond c xs (x ∷ without_first q xs))) [
      | true ↦ h.2
      | false ↦ (h.0, none_without (has (number x)) q xs h.1, drawn_without number has q last xs h.2)
    ]
