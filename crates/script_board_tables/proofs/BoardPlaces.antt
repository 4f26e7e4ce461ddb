-- What stands at the place of a board.
use Rattle.std.proofs.Common.{◌≡◌, ℕ, zero, suc, ◌<◌, Bool, true, false, List, [], ◌∷◌, length, get_or, Option, Some, None, arith, refl, sym, ◌∙◌}
use Rattle.std.specs.Prelude.{find, slice_get}
use Rattle.board_model.specs.Tables.{holds_at}
use Rattle.script_things.specs.Places.{IsFirstAt, IsNowhere, IsOnlyAt, IsPlace, standing}
use Rattle.script_things.proofs.PlaceLemmas.{found_at}

read_back : {Y : Type 0} (ys : List Y) (k : ℕ) (y : Y) → slice_get ys k ≡ Some y → get_or ys k y ≡ y
read_back [] k y e = refl
read_back {Y} (x ∷ xs) zero y e = (let f : some x ≡ some y = e in cc)
  where
    some : Y → Option Y
    some z = Some z
read_back (x ∷ xs) (suc k) y e = read_back xs k y e

-- below the length, nothing comes of the default
pub any_default : {Y : Type 0} (ys : List Y) (k : ℕ) (d e : Y) → k < length ys → get_or ys k d ≡ get_or ys k e
any_default [] k d e low = absurd (omega (arith, low))
any_default (y ∷ ys) zero d e low = refl
any_default (y ∷ ys) (suc k) d e low = any_default ys k d e (omega (arith, low))

module _ {X : Type 0} (p : X → Bool) where
  nowhere_at : (os : List (Option X)) (k : ℕ) (d : Option X) → IsNowhere p os → k < length os → holds_at (get_or os k d) p ≡ false
  nowhere_at [] k d h low = absurd (omega (arith, low))
  nowhere_at (o ∷ os) zero d h low = h.0
  nowhere_at (o ∷ os) (suc k) d h low = nowhere_at os k d h.1 (omega (arith, low))

  same_place : (os : List (Option X)) (j k : ℕ) (d : Option X) → IsOnlyAt p os j → k < length os → holds_at (get_or os k d) p ≡ true → IsOnlyAt p os k
  same_place [] j k d h low holds = absurd h
  same_place (o ∷ os) zero zero d h low holds = h
  same_place (o ∷ os) zero (suc k) d h low holds = absurd (let e : holds_at (get_or os k d) p ≡ false = nowhere_at os k d h.1 (omega (arith, low)) in let f : true ≡ false = sym holds ∙ e in cc)
  same_place (o ∷ os) (suc j) zero d h low holds = absurd (let e : holds_at o p ≡ false = h.0 in let f : true ≡ false = sym holds ∙ e in cc)
  same_place (o ∷ os) (suc j) (suc k) d h low holds = (h.0, same_place os j k d h.1 (omega (arith, low)) holds)

  -- what passes and is at the place of one at most stands there alone
  pub only_here : (os : List (Option X)) (k : ℕ) (d : Option X) (o : Option ℕ) → IsPlace p os o → k < length os → holds_at (get_or os k d) p ≡ true → IsOnlyAt p os k
  only_here os k d None h low holds = absurd (let e : holds_at (get_or os k d) p ≡ false = nowhere_at os k d h low in let f : true ≡ false = sym holds ∙ e in cc)
  only_here os k d (Some j) h low holds = same_place os j k d h low holds

  -- what stands there is found
  pub found_get : (os : List (Option X)) (k : ℕ) (o : Option X) → IsFirstAt p os k → slice_get os k ≡ Some o → find p (standing os) ≡ o
  found_get os k o h e = found_at p os k h o ∙ read_back os k o e
