-- How a table keeps its names: each as a list on the heap. No public clause speaks of what follows.
use Rattle.std.specs.Prelude.{ℕ, ◌≤◌, List, length, map, Vec}
use Rattle.std.specs.BTreeMap.{BTreeMap, keys}
use Rattle.std.specs.List.{All}
use Rattle.board_names.specs.Table.{Held}

-- these entries, with their keys seen so
abbrev pub seen_by : {K X : Type 0} → (K → List ℕ) → List (K × X) → List (List ℕ × X)
seen_by name es = map (λ e. (name e.0, e.1)) es

-- the names and values of a map
abbrev pub held : {X Z : Type 0} → BTreeMap (Vec ℕ Z) X → Held X
held m = record { entries = seen_by (λ k. k.items) m.entries }

-- each name is short enough for a full name
abbrev pub AreFullNames : {X Z : Type 0} → BTreeMap (Vec ℕ Z) X → Type 0
AreFullNames m = All (λ k. length k.items ≤ 1021) (keys m)
