-- What stands under the numbers of a map, as a list in their order.
use Rattle.std.specs.Prelude.{ℕ, zero, suc, nat_eq, List, [], Option}
use Rattle.std.specs.HashMap.{HashMap, get}
use Rattle.std.specs.List.{cons_option}

-- what stands under so many numbers from the first one on, in their order
abbrev pub standing_from : {X : Type 0} → (ℕ → Option X) → ℕ → ℕ → List X
standing_from under first zero = []
standing_from under first (suc n) = cons_option (under first) (standing_from under (suc first) n)

-- what stands under the numbers from 1 to the last one
abbrev pub standing : {X : Type 0} → (ℕ → Option X) → ℕ → List X
standing under last = standing_from under 1 last

-- what a map has under numbers
abbrev pub under : {X S : Type 0} → HashMap ℕ X S → ℕ → Option X
under m = λ number. get nat_eq m number
