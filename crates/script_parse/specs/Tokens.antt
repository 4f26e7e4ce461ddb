-- The tokens that are left of a line.
use Rattle.std.specs.Prelude.{ℕ, ◌==◌, Bool, true, false, List, [], Option, Some, None}
use Rattle.std.specs.List.{slice_split}
use Rattle.std.specs.Borrow.{Bor}

-- what follows the tokens that were taken: nothing, or the bytes behind a separator
abbrev pub parts_left : ℕ → Option (Bor (List ℕ)) → List (List ℕ)
parts_left separator None = []
parts_left separator (Some bytes) = slice_split (λ b. b == separator) bytes.now

-- what was read, and the tokens behind it
abbrev pub with_rest : {A : Type 0} → Option A → List (List ℕ) → Option (A × List (List ℕ))
with_rest None rest = None
with_rest (Some x) rest = Some (x, rest)

-- the tokens that are left, where something was read
abbrev pub rest_where : Bool → List (List ℕ) → Option (List (List ℕ))
rest_where true rest = Some rest
rest_where false rest = None

-- the tokens behind what was read
abbrev pub left_behind : {A : Type 0} → Option (A × List (List ℕ)) → Option (List (List ℕ))
left_behind None = None
left_behind (Some x) = Some x.1
