-- A line that is cut before its call.
use Rattle.std.specs.Prelude.{◌≡◌, ℕ, List, ◌∷◌, ◌++◌, codes}

-- behind `begin` stand the party and a space, and then what is asked
abbrev pub IsCut : (line party asked : List ℕ) → Type 0
IsCut line party asked = line ≡ codes "begin " ++ (party ++ 32 ∷ asked)
