-- What is seen at a place after an end was taken or parked at one.
use Rattle.std.proofs.Common.{◌≡◌, ◌≢◌, ℕ, zero, suc, List, [], ◌∷◌, Option, Some, None, refl, ap, ◌∙◌}
use Rattle.std.specs.Prelude.{slice_get, option_map}
use Rattle.board_cells.specs.Cells.{PlaceSeen, EndSeen, cell_at, parked_at, emptied, without_end, or_else, filled, with_end}

without_behind : (z : PlaceSeen) (zs : List PlaceSeen) (i : ℕ) → without_end (z ∷ zs) (suc i) ≡ z ∷ without_end zs i
without_behind z zs i = step (slice_get zs i)
  where
    step : (o : Option PlaceSeen) → emptied (z ∷ zs) (suc i) o ≡ z ∷ emptied zs i o
    step None = refl
    step (Some p) = refl

pub cell_without : (ps : List PlaceSeen) (i j : ℕ) → cell_at (without_end ps i) j ≡ cell_at ps j
cell_without [] i j = refl
cell_without (z ∷ zs) zero zero = refl
cell_without (z ∷ zs) zero (suc j) = refl
cell_without (z ∷ zs) (suc i) zero = ap (λ (ps : List PlaceSeen). cell_at ps zero) (without_behind z zs i)
cell_without (z ∷ zs) (suc i) (suc j) = ap (λ (ps : List PlaceSeen). cell_at ps (suc j)) (without_behind z zs i) ∙ cell_without zs i j

pub parked_without : (ps : List PlaceSeen) (i : ℕ) → parked_at (without_end ps i) i ≡ None
parked_without [] i = refl
parked_without (z ∷ zs) zero = refl
parked_without (z ∷ zs) (suc i) = ap (λ (ps : List PlaceSeen). parked_at ps (suc i)) (without_behind z zs i) ∙ parked_without zs i

pub parked_without_other : (ps : List PlaceSeen) (i j : ℕ) → i ≢ j → parked_at (without_end ps i) j ≡ parked_at ps j
parked_without_other [] i j d = refl
parked_without_other (z ∷ zs) zero zero d = absurd (d refl)
parked_without_other (z ∷ zs) zero (suc j) d = refl
parked_without_other (z ∷ zs) (suc i) zero d = ap (λ (ps : List PlaceSeen). parked_at ps zero) (without_behind z zs i)
parked_without_other (z ∷ zs) (suc i) (suc j) d = ap (λ (ps : List PlaceSeen). parked_at ps (suc j)) (without_behind z zs i) ∙ parked_without_other zs i j (λ e. d (ap suc e))

module _ (e : EndSeen) where
  with_behind : (z : PlaceSeen) (zs : List PlaceSeen) (i : ℕ) → with_end (z ∷ zs) (suc i) e ≡ z ∷ with_end zs i e
  with_behind z zs i = step (slice_get zs i)
    where
      step : (o : Option PlaceSeen) → filled (z ∷ zs) (suc i) o e ≡ z ∷ filled zs i o e
      step None = refl
      step (Some p) = refl

  pub cell_with : (ps : List PlaceSeen) (i j : ℕ) → cell_at (with_end ps i e) j ≡ cell_at ps j
  cell_with [] i j = refl
  cell_with (z ∷ zs) zero zero = refl
  cell_with (z ∷ zs) zero (suc j) = refl
  cell_with (z ∷ zs) (suc i) zero = ap (λ (ps : List PlaceSeen). cell_at ps zero) (with_behind z zs i)
  cell_with (z ∷ zs) (suc i) (suc j) = ap (λ (ps : List PlaceSeen). cell_at ps (suc j)) (with_behind z zs i) ∙ cell_with zs i j

  -- there the end that was parked stays, or this one is parked
  abbrev pub kept_or : Option PlaceSeen → Option EndSeen
  kept_or o = option_map (λ (p : PlaceSeen). or_else p.parked e) o

  pub parked_with : (ps : List PlaceSeen) (i : ℕ) → parked_at (with_end ps i e) i ≡ kept_or (slice_get ps i)
  parked_with [] i = refl
  parked_with (z ∷ zs) zero = refl
  parked_with (z ∷ zs) (suc i) = ap (λ (ps : List PlaceSeen). parked_at ps (suc i)) (with_behind z zs i) ∙ parked_with zs i

  pub parked_with_other : (ps : List PlaceSeen) (i j : ℕ) → i ≢ j → parked_at (with_end ps i e) j ≡ parked_at ps j
  parked_with_other [] i j d = refl
  parked_with_other (z ∷ zs) zero zero d = absurd (d refl)
  parked_with_other (z ∷ zs) zero (suc j) d = refl
  parked_with_other (z ∷ zs) (suc i) zero d = ap (λ (ps : List PlaceSeen). parked_at ps zero) (with_behind z zs i)
  parked_with_other (z ∷ zs) (suc i) (suc j) d = ap (λ (ps : List PlaceSeen). parked_at ps (suc j)) (with_behind z zs i) ∙ parked_with_other zs i j (λ f. d (ap suc f))
