-- What stands at the places of a list, after a change of one of them.
use Rattle.std.proofs.Common.{◌≡◌, ℕ, zero, suc, ◌<◌, ◌≤◌, Bool, true, false, cond, List, [], ◌∷◌, ◌++◌, length, get_or, set, take, map, Option, Some, None, arith, refl, sym, ap, ◌∙◌}
use Rattle.std.specs.Prelude.{find, option_map}
use Rattle.board_model.specs.Tables.{holds_at, without_first}
use Rattle.script_things.specs.Places.{IsFirstAt, IsNowhere, IsOnlyAt, standing}

module _ {X : Type 0} (p : X → Bool) where
  pub first_of_only : (os : List (Option X)) (k : ℕ) → IsOnlyAt p os k → IsFirstAt p os k
  first_of_only [] k h = absurd h
  first_of_only (o ∷ os) zero h = h.0
  first_of_only (o ∷ os) (suc k) h = (h.0, first_of_only os k h.1)

  pub inside : (os : List (Option X)) (k : ℕ) → IsFirstAt p os k → k < length os
  inside [] k h = absurd h
  inside (o ∷ os) zero h = omega arith
  inside (o ∷ os) (suc k) h = omega (arith, inside os k h.1)

  -- none of those before it passes
  pub first_after : (os : List (Option X)) (k : ℕ) (d : Option X) → IsNowhere p (take k os) → k < length os → holds_at (get_or os k d) p ≡ true → IsFirstAt p os k
  first_after [] k d h lt holds = absurd (omega (arith, lt))
  first_after (o ∷ os) zero d h lt holds = holds
  first_after (o ∷ os) (suc k) d h lt holds = (h.0, first_after os k d h.1 (omega (arith, lt)) holds)

  -- ---- what is found

  pub none_found : (os : List (Option X)) → IsNowhere p os → find p (standing os) ≡ None
  none_found [] h = refl
  none_found (None ∷ os) h = none_found os h.1
  none_found (Some x ∷ os) h = (let fails : p x ≡ false = h.0 in rw fails (none_found os h.1))

  pub found_at : (os : List (Option X)) (k : ℕ) → IsFirstAt p os k → (d : Option X) → find p (standing os) ≡ get_or os k d
  found_at [] k h d = absurd h
  found_at (None ∷ os) zero h d = absurd (let fails : false ≡ true = h in cc)
  found_at (Some x ∷ os) zero h d = (let holds : p x ≡ true = h in rw holds refl)
  found_at (None ∷ os) (suc k) h d = found_at os k h.1 d
  found_at (Some x ∷ os) (suc k) h d = (let fails : p x ≡ false = h.0 in rw fails (found_at os k h.1 d))

  -- it passes
  pub passes_at : (os : List (Option X)) (k : ℕ) → IsFirstAt p os k → (d : Option X) → holds_at (get_or os k d) p ≡ true
  passes_at [] k h d = absurd h
  passes_at (o ∷ os) zero h d = h
  passes_at (o ∷ os) (suc k) h d = passes_at os k h.1 d

  -- ---- what stands after it

  pub none_without : (os : List (Option X)) → IsNowhere p os → without_first p (standing os) ≡ standing os
  none_without [] h = refl
  none_without (None ∷ os) h = none_without os h.1
  none_without (Some x ∷ os) h = (let fails : p x ≡ false = h.0 in rw fails (ap (λ (xs : List X). x ∷ xs) (none_without os h.1)))

  pub without_at : (os : List (Option X)) (k : ℕ) → IsFirstAt p os k → standing (set os k None) ≡ without_first p (standing os)
  without_at [] k h = absurd h
  without_at (None ∷ os) zero h = absurd (let fails : false ≡ true = h in cc)
  without_at (Some x ∷ os) zero h = (let holds : p x ≡ true = h in rw holds refl)
  without_at (None ∷ os) (suc k) h = without_at os k h.1
  without_at (Some x ∷ os) (suc k) h = (let fails : p x ≡ false = h.0 in rw fails (ap (λ (xs : List X). x ∷ xs) (without_at os k h.1)))

  module _ (f : X → X) where
    abbrev pub changed : X → X
    changed x = cond (p x) (f x) x

    pub none_changed : (os : List (Option X)) → IsNowhere p os → map changed (standing os) ≡ standing os
    none_changed [] h = refl
    none_changed (None ∷ os) h = none_changed os h.1
    none_changed (Some x ∷ os) h = (let fails : p x ≡ false = h.0 in rw fails (ap (λ (xs : List X). x ∷ xs) (none_changed os h.1)))

    pub changed_at : (os : List (Option X)) (k : ℕ) → IsOnlyAt p os k → (x : X) → ((d : Option X) → get_or os k d ≡ Some x) → standing (set os k (Some (f x))) ≡ map changed (standing os)
    changed_at [] k h x is = absurd h
    changed_at (None ∷ os) zero h x is = absurd (let fails : false ≡ true = h.0 in cc)
    changed_at (Some y ∷ os) zero h x is =
        let holds : p y ≡ true = h.0 in
        let one : Some y ≡ Some x = is None in
        let same : y ≡ x = cc in
        rw (holds, ← same) (ap (λ (xs : List X). f y ∷ xs) (sym (none_changed os h.1)))
    changed_at (None ∷ os) (suc k) h x is = changed_at os k h.1 x is
    changed_at (Some y ∷ os) (suc k) h x is = (let fails : p y ≡ false = h.0 in rw fails (ap (λ (xs : List X). y ∷ xs) (changed_at os k h.1 x is)))

  -- ---- where it stands then

  pub none_set : (os : List (Option X)) (k : ℕ) (y : Option X) → IsNowhere p os → holds_at y p ≡ false → IsNowhere p (set os k y)
  none_set [] k y h fails = tt
  none_set (o ∷ os) zero y h fails = (fails, h.1)
  none_set (o ∷ os) (suc k) y h fails = (h.0, none_set os k y h.1 fails)

  -- neither what stood there passes nor what does then
  pub other_set : (os : List (Option X)) (j k : ℕ) (y : Option X) → IsOnlyAt p os j → ((d : Option X) → k < length os → holds_at (get_or os k d) p ≡ false) → holds_at y p ≡ false → IsOnlyAt p (set os k y) j
  other_set [] j k y h was fails = absurd h
  other_set (o ∷ os) zero zero y h was fails = absurd (let one : holds_at o p ≡ false = was None (omega arith) in let two : holds_at o p ≡ true = h.0 in let both : true ≡ false = sym two ∙ one in cc)
  other_set (o ∷ os) zero (suc k) y h was fails = (h.0, none_set os k y h.1 fails)
  other_set (o ∷ os) (suc j) zero y h was fails = (fails, h.1)
  other_set (o ∷ os) (suc j) (suc k) y h was fails = (h.0, other_set os j k y h.1 (λ d lt. was d (omega (arith, lt))) fails)

  pub gone_set : (os : List (Option X)) (k : ℕ) (y : Option X) → IsOnlyAt p os k → holds_at y p ≡ false → IsNowhere p (set os k y)
  gone_set [] k y h fails = absurd h
  gone_set (o ∷ os) zero y h fails = (fails, h.1)
  gone_set (o ∷ os) (suc k) y h fails = (h.0, gone_set os k y h.1 fails)

  pub here_set : (os : List (Option X)) (k : ℕ) (y : Option X) → IsNowhere p os → k < length os → holds_at y p ≡ true → IsOnlyAt p (set os k y) k
  here_set [] k y h lt holds = absurd (omega (arith, lt))
  here_set (o ∷ os) zero y h lt holds = (holds, h.1)
  here_set (o ∷ os) (suc k) y h lt holds = (h.0, here_set os k y h.1 (omega (arith, lt)) holds)

  pub none_pushed : (os : List (Option X)) (y : Option X) → IsNowhere p os → holds_at y p ≡ false → IsNowhere p (os ++ y ∷ [])
  none_pushed [] y h fails = (fails, tt)
  none_pushed (o ∷ os) y h fails = (h.0, none_pushed os y h.1 fails)

  pub here_pushed : (os : List (Option X)) (y : Option X) → IsNowhere p os → holds_at y p ≡ true → IsOnlyAt p (os ++ y ∷ []) (length os)
  here_pushed [] y h holds = (holds, tt)
  here_pushed (o ∷ os) y h holds = (h.0, here_pushed os y h.1 holds)

  pub other_pushed : (os : List (Option X)) (k : ℕ) (y : Option X) → IsOnlyAt p os k → holds_at y p ≡ false → IsOnlyAt p (os ++ y ∷ []) k
  other_pushed [] k y h fails = absurd h
  other_pushed (o ∷ os) zero y h fails = (h.0, none_pushed os y h.1 fails)
  other_pushed (o ∷ os) (suc k) y h fails = (h.0, other_pushed os k y h.1 fails)

pub standing_pushed : {X : Type 0} (os : List (Option X)) (x : X) → standing (os ++ Some x ∷ []) ≡ standing os ++ x ∷ []
standing_pushed [] x = refl
standing_pushed (None ∷ os) x = standing_pushed os x
standing_pushed {X} (Some y ∷ os) x = ap (λ (xs : List X). y ∷ xs) (standing_pushed os x)

pub standing_mapped : {X : Type 0} (f : X → X) (os : List (Option X)) → standing (map (option_map f) os) ≡ map f (standing os)
standing_mapped f [] = refl
standing_mapped f (None ∷ os) = standing_mapped f os
standing_mapped {X} f (Some y ∷ os) = ap (λ (xs : List X). f y ∷ xs) (standing_mapped f os)

pub standing_short : {X : Type 0} (os : List (Option X)) → length (standing os) ≤ length os
standing_short [] = omega arith
standing_short (None ∷ os) = (let h = standing_short os in omega (arith, h))
standing_short (Some x ∷ os) = (let h = standing_short os in omega (arith, h))
