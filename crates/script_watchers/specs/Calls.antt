-- The handles that ids call for, row by row.
use Rattle.std.specs.Prelude.{ℕ, Bool, ◌==◌, ◌&&◌, not, if◌then◌else◌, List, [], ◌∷◌, ◌++◌}
use Rattle.std.specs.List.{list_any}
use Rattle.std.specs.Str.{bytes_eq}
use Rattle.script_moments.specs.Watchers.{AskedId}
use Rattle.script_watchers.specs.declared.calls.Asked.{Asked}

-- the id is among these
abbrev pub is_told : List ℕ → ℕ → Bool
is_told ids id = list_any (λ n. n == id) ids

-- with the handle of this row, where its id is told and it isn't there yet
abbrev pub with_row : List ℕ → List (List ℕ) → Asked → List (List ℕ)
with_row ids calls r = if is_told ids r.id && not (list_any (λ n. bytes_eq n r.handle) calls) then calls ++ r.handle ∷ [] else calls

-- and with those of all rows
abbrev pub collected : List ℕ → List (List ℕ) → List Asked → List (List ℕ)
collected ids calls [] = calls
collected ids calls (r ∷ rs) = collected ids (with_row ids calls r) rs

-- the handles with the ids that were told of them
abbrev pub rows_of : List (List ℕ) → List AskedId → List Asked
rows_of [] xs = []
rows_of (h ∷ hs) [] = []
rows_of (h ∷ hs) (x ∷ xs) = record { handle = h; id = x.id } ∷ rows_of hs xs
