-- What passes a test in a list.
use Rattle.std.proofs.Common.{◌≡◌, ℕ, suc, ◌+◌, ◌<◌, Bool, true, false, cond, List, [], ◌∷◌, length, get_or, arith, refl, sym, Option, Some, None, ◌⊎◌, inl, inr}
use Rattle.std.specs.Prelude.{find, is_some}
use Rattle.std.specs.List.{position_from}

chosen : {A : Type 0} (b : Bool) (x y z : A) → cond b x y ≡ z → ((b ≡ true) × (x ≡ z)) ⊎ ((b ≡ false) × (y ≡ z))
chosen true x y z e = inl (refl, e)
chosen false x y z e = inr (refl, e)

abbrev a_number : ℕ → Option ℕ
a_number n = Some n

-- ---- the first that passes

-- the first that passes stands at k
pub record IsFirst {X : Type 0} (p : X → Bool) (xs : List X) (k : ℕ) : Type 0 where
  pub inside : k < length xs
  pub found : (d : X) → find p xs ≡ Some (get_or xs k d)
  pub passes : (d : X) → p (get_or xs k d) ≡ true

first_from : {X : Type 0} (p : X → Bool) (i k : ℕ) (xs : List X) → position_from p i xs ≡ Some k → (j : ℕ) × (k ≡ j + i) × IsFirst p xs j
first_from p i k [] e = absurd cc
first_from {X = X} p i k (x ∷ xs) e =
    elim (chosen (p x) (Some i) (position_from p (i + 1) xs) (Some k) e) [
      | inl h ↦ (0, (let s : a_number i ≡ a_number k = h.1 in let q : i ≡ k = cc in omega arith), record { inside = omega arith; found = λ d. rw h.0 refl; passes = λ d. h.0 })
      | inr h ↦
          let more = first_from p (i + 1) k xs h.1 in
          (suc more.0, omega (arith, more.1), record { inside = omega (arith, more.2.inside); found = λ d. rw h.0 (more.2.found d); passes = more.2.passes })
    ]

pub first_at : {X : Type 0} (p : X → Bool) (k : ℕ) (xs : List X) → Some k ≡ position_from p 0 xs → IsFirst p xs k
first_at p k xs e =
    let f = first_from p 0 k xs (sym e) in
    let q : k ≡ f.0 = omega (arith, f.1) in
    rw q f.2

-- what stands somewhere is found
pub place_found : {X : Type 0} (p : X → Bool) (i k : ℕ) (xs : List X) → position_from p i xs ≡ Some k → is_some (find p xs) ≡ true
place_found p i k [] e = absurd cc
place_found p i k (x ∷ xs) e =
    elim (chosen (p x) (Some i) (position_from p (i + 1) xs) (Some k) e) [
      | inl h ↦ rw h.0 refl
      | inr h ↦ rw h.0 (place_found p (i + 1) k xs h.1)
    ]

-- what stands nowhere isn't
pub place_missing : {X : Type 0} (p : X → Bool) (i : ℕ) (xs : List X) → position_from p i xs ≡ None → is_some (find p xs) ≡ false
place_missing p i [] e = refl
place_missing p i (x ∷ xs) e =
    elim (chosen (p x) (Some i) (position_from p (i + 1) xs) None e) [
      | inl h ↦ absurd (let s : a_number i ≡ None = h.1 in cc)
      | inr h ↦ rw h.0 (place_missing p (i + 1) xs h.1)
    ]

-- what is found stands somewhere
pub found_somewhere : {X : Type 0} (p : X → Bool) (i : ℕ) (xs : List X) (x : X) → find p xs ≡ Some x → (k : ℕ) × (position_from p i xs ≡ Some k)
found_somewhere p i [] x e = absurd cc
found_somewhere p i (y ∷ xs) x e =
    elim (chosen (p y) (Some y) (find p xs) (Some x) e) [
      | inl h ↦ (i, rw h.0 refl)
      | inr h ↦ let more = found_somewhere p (i + 1) xs x h.1 in (more.0, rw h.0 more.1)
    ]
