-- Where the two copies of a cell in its table stand.
use Rattle.std.proofs.Common.{◌≡◌, ◌≢◌, ◌⊎◌, inl, inr, ℕ, ◌+◌, ◌*◌, ◌%◌, ◌<◌, ◌≤◌, ap, ◌∙◌, ⊎_elim, arith}
use mathlib.Core.Logic.{dite}
use native.Mathlib.Decide.{ℕ_discrete}
use Rattle.board_cell_model.specs.OwedAccesses.{copy_at}
use Rattle.board_cell.specs.Passes.{threaded_shape}

first_copy : (w g : ℕ) → g % 2 ≡ 0 → copy_at (threaded_shape w) g ≡ 2
first_copy w g e = ap (λ (m : ℕ). 0 + 2 + m * w) e ∙ omega arith

second_copy : (w g : ℕ) → g % 2 ≡ 1 → copy_at (threaded_shape w) g ≡ 2 + w
second_copy w g e = ap (λ (m : ℕ). 0 + 2 + m * w) e ∙ omega arith

-- one of the two is the current copy, and the other the spare one
pub two_copies : (w g : ℕ) → ((copy_at (threaded_shape w) g ≡ 2) × (copy_at (threaded_shape w) (g + 1) ≡ 2 + w)) ⊎ ((copy_at (threaded_shape w) g ≡ 2 + w) × (copy_at (threaded_shape w) (g + 1) ≡ 2))
two_copies w g = dite (ℕ_discrete (g % 2) 0)
    (λ even. inl (first_copy w g even, second_copy w (g + 1) (omega (even, arith))))
    (λ odd. inr (second_copy w g (omega (odd, arith)), first_copy w (g + 1) (omega (odd, arith))))

pub copies_apart : (w g i k : ℕ) → i < w → k < w → copy_at (threaded_shape w) (g + 1) + i ≢ copy_at (threaded_shape w) g + k
copies_apart w g i k hi hk e = ⊎_elim (λ t. let a = t.0 in let b = t.1 in omega arith) (λ t. let a = t.0 in let b = t.1 in omega arith) (two_copies w g)

-- a copy lies within the words, behind the counter and the reserved word
pub copy_within : (w g i : ℕ) → i < w → (2 ≤ copy_at (threaded_shape w) g + i) × (copy_at (threaded_shape w) g + i < 2 + 2 * w)
copy_within w g i h = ⊎_elim (λ t. let a = t.0 in (omega arith, omega arith)) (λ t. let a = t.0 in (omega arith, omega arith)) (two_copies w g)

-- two generations later the copies stand as before
pub two_on : (w g : ℕ) → copy_at (threaded_shape w) ((g + 1) + 1) ≡ copy_at (threaded_shape w) g
two_on w g = let e : ((g + 1) + 1) % 2 ≡ g % 2 = omega arith in ap (λ (m : ℕ). 0 + 2 + m * w) e
