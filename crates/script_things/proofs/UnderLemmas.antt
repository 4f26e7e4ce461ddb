-- What an index by number knows of the things at the places of a list, and what stands at a place after a change.
use Rattle.std.proofs.Common.{◌≡◌, ℕ, zero, suc, ◌<◌, Bool, true, false, List, [], ◌∷◌, ◌++◌, length, get_or, set, Option, Some, None, arith, refl, ◌∙◌}
use Rattle.std.specs.Prelude.{slice_get}
use Rattle.std.proofs.Math.Dec.{eqb-suc-suc, eqb-suc-zero, eqb-zero-suc}
use Rattle.script_seats.specs.Seats as numbered
use Rattle.script_things.specs.Places.{IsNowhere, IsOnlyAt, under}

module _ {X : Type 0} where
  module _ (p : X → Bool) where
    pub none_under : (os : List (Option X)) → numbered.IsNowhere p (under os) → IsNowhere p os
    none_under [] h = tt
    none_under (o ∷ os) h = (h zero, none_under os (λ n. h (suc n)))

    pub only_under : (os : List (Option X)) (k : ℕ) → numbered.IsOnlyAt p (under os) k → IsOnlyAt p os k
    only_under [] k h = absurd (let e : false ≡ true = h.passes in cc)
    only_under (o ∷ os) zero h = (h.passes, none_under os (λ n. h.others (suc n) (eqb-zero-suc n)))
    only_under (o ∷ os) (suc k) h = (h.others zero (eqb-suc-zero k), only_under os k record { passes = h.passes; others = λ n e. h.others (suc n) (eqb-suc-suc k n ∙ e) })

  -- nothing stands behind the others
  pub behind : (os : List (Option X)) → under os (length os) ≡ None
  behind [] = refl
  behind (o ∷ os) = behind os

  pub pushed_at : (os : List (Option X)) (y : Option X) (n : ℕ) → numbered.put (length os) y (under os) n ≡ under (os ++ y ∷ []) n
  pushed_at [] y zero = refl
  pushed_at [] y (suc n) = rw (eqb-zero-suc n) refl
  pushed_at (o ∷ os) y zero = rw (eqb-suc-zero (length os)) refl
  pushed_at (o ∷ os) y (suc n) = rw (eqb-suc-suc (length os) n) (pushed_at os y n)

  pub set_at : (os : List (Option X)) (k : ℕ) (y : Option X) → k < length os → (n : ℕ) → numbered.put k y (under os) n ≡ under (set os k y) n
  set_at [] k y lt n = absurd (omega (arith, lt))
  set_at (o ∷ os) zero y lt zero = refl
  set_at (o ∷ os) zero y lt (suc n) = rw (eqb-zero-suc n) refl
  set_at (o ∷ os) (suc k) y lt zero = rw (eqb-suc-zero k) refl
  set_at (o ∷ os) (suc k) y lt (suc n) = rw (eqb-suc-suc k n) (set_at os k y (omega (arith, lt)) n)

  -- as functions
  pub under_pushed : (os : List (Option X)) (y : Option X) → numbered.put (length os) y (under os) ≡ under (os ++ y ∷ [])
  under_pushed os y = λ i n. pushed_at os y n i

  pub under_set : (os : List (Option X)) (k : ℕ) (y : Option X) → k < length os → numbered.put k y (under os) ≡ under (set os k y)
  under_set os k y lt = λ i n. set_at os k y lt n i

  -- the thing at the place of one that passes
  pub record StandsAt (places : List (Option X)) (k : ℕ) : Type 0 where
    pub thing : X
    pub got : slice_get places k ≡ Some (Some thing)
    pub shown : under places k ≡ Some thing
    pub read : (d : Option X) → get_or places k d ≡ Some thing

  pub stands_at : (p : X → Bool) (places : List (Option X)) (k : ℕ) → IsOnlyAt p places k → StandsAt places k
  stands_at p [] k h = absurd h
  stands_at p (None ∷ os) zero h = absurd (let e : false ≡ true = h.0 in cc)
  stands_at p (Some x ∷ os) zero h = record { thing = x; got = refl; shown = refl; read = λ d. refl }
  stands_at p (o ∷ os) (suc k) h = (let s = stands_at p os k h.1 in record { thing = s.thing; got = s.got; shown = s.shown; read = s.read })
