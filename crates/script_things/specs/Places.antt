-- What stands at the places of a list. A place stays empty where something went, so no other one moves.
use Rattle.std.specs.Prelude.{◌≡◌, ℕ, zero, suc, Bool, true, false, List, [], ◌∷◌, Option, Some, None}
use Rattle.std.specs.List.{AllByRecursion, filter_map}
use Rattle.board_model.specs.Tables.{holds_at}

-- what stands, in the order of the places
abbrev pub standing : {X : Type 0} → List (Option X) → List X
standing {X} places = filter_map (λ (o : Option X). o) places

-- what stands at a place, by its number
abbrev pub under : {X : Type 0} → List (Option X) → ℕ → Option X
under [] n = None
under (o ∷ os) zero = o
under (o ∷ os) (suc n) = under os n

-- nothing that stands passes the test
abbrev pub IsNowhere : {X : Type 0} → (X → Bool) → List (Option X) → Type 0
IsNowhere p places = AllByRecursion (λ o. holds_at o p ≡ false) places

-- the first that passes stands at this place
abbrev pub IsFirstAt : {X : Type 0} → (X → Bool) → List (Option X) → ℕ → Type 0
IsFirstAt p [] k = ⊥
IsFirstAt p (o ∷ os) zero = holds_at o p ≡ true
IsFirstAt p (o ∷ os) (suc k) = (holds_at o p ≡ false) × IsFirstAt p os k

-- the only one that passes does
abbrev pub IsOnlyAt : {X : Type 0} → (X → Bool) → List (Option X) → ℕ → Type 0
IsOnlyAt p [] k = ⊥
IsOnlyAt p (o ∷ os) zero = (holds_at o p ≡ true) × IsNowhere p os
IsOnlyAt p (o ∷ os) (suc k) = (holds_at o p ≡ false) × IsOnlyAt p os k

-- where the first that passes stands, if one does
abbrev pub IsFirstPlace : {X : Type 0} → (X → Bool) → List (Option X) → Option ℕ → Type 0
IsFirstPlace p places None = IsNowhere p places
IsFirstPlace p places (Some k) = IsFirstAt p places k

-- where the only one that passes stands, if one does
abbrev pub IsPlace : {X : Type 0} → (X → Bool) → List (Option X) → Option ℕ → Type 0
IsPlace p places None = IsNowhere p places
IsPlace p places (Some k) = IsOnlyAt p places k
