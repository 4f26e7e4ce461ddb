-- The cells of a board, lent and given back.
use Rattle.std.proofs.Common.{◌≡◌, ℕ, zero, suc, List, [], ◌∷◌, set, refl, sym, ap, ◌∙◌, Option, Some, None}
use Rattle.std.specs.Prelude.{slice_get}
use Rattle.board_service.specs.Domain.{Domain, at, cells_of, place_of_board, set_at, with_cells}

set_same : {A : Type 0} → (ps : List A) (i : ℕ) (p : A) → slice_get ps i ≡ Some p → set ps i p ≡ ps
set_same [] i p e = refl
set_same (z ∷ zs) zero p e = let same : z ≡ p = cc in λ k. sym same k ∷ zs
set_same (z ∷ zs) (suc i) p e = λ k. z ∷ set_same zs i p e k

set_at_same : {A : Type 0} (xs : List A) (p : Option ℕ) (x y : A) → Some y ≡ at xs p → x ≡ y → set_at xs p x ≡ xs
set_at_same xs None x y e s = refl
set_at_same xs (Some i) x y e s = ap (set xs i) s ∙ set_same xs i y (sym e)

-- cells that come back as they were lent change nothing
pub same_cells : {C : Type 0} (d : Domain C) (board : ℕ) (x y : C) → Some y ≡ cells_of d board → x ≡ y → with_cells d board x ≡ d
same_cells d board x y e s = λ k. record d { cells = set_at_same d.cells (place_of_board d board) x y e s k }
