-- Tables by full names: pairs of a name's bytes and a value, in the order of the names.
use Rattle.std.specs.Prelude.{◌≡◌, ℕ, List, Option, Some, None, Result, Ok, Err, Bool, if◌then◌else◌, slice_get}
use Rattle.std.specs.Ordering.{nat_cmp}
use Rattle.std.specs.Cmp.Lexicographic.{slice_cmp}
use Rattle.std.specs.List.Sorted.{IsStrictlySortedBy}
use Rattle.std.specs.Map.{lookup, remove_entry, keys_of}
use Rattle.std.specs.BTreeMap.{insert_entry, is_at}

-- what stands under the names of a table, in the order of the names
pub record Held (X : Type 0) : Type 0 where
  pub entries : List (List ℕ × X)

-- the names ascend by their bytes, so each is held once
abbrev pub NamesAscend : {X : Type 0} → List (List ℕ × X) → Type 0
NamesAscend table = IsStrictlySortedBy (slice_cmp nat_cmp) (keys_of table)

-- what stands under a name
abbrev pub at : {X : Type 0} → List (List ℕ × X) → List ℕ → Option X
at table name = lookup (is_at (slice_cmp nat_cmp name)) table

-- nothing stands under a name
abbrev pub IsFree : {X : Type 0} → List (List ℕ × X) → List ℕ → Type 0
IsFree table name = at table name ≡ None

-- the table with this under the name
abbrev pub putting : {X : Type 0} → List (List ℕ × X) → List ℕ → X → List (List ℕ × X)
putting table name value = insert_entry (slice_cmp nat_cmp) table name value

-- the table with nothing under the name
abbrev pub without : {X : Type 0} → List (List ℕ × X) → List ℕ → List (List ℕ × X)
without table name = remove_entry (is_at (slice_cmp nat_cmp name)) table

-- the table after a name was let go where it was owned
abbrev pub let_go : {X : Type 0} → List (List ℕ × X) → Bool → List ℕ → List (List ℕ × X)
let_go table owns name = if owns then without table name else table

-- the name at an index, counted from 0
abbrev pub name_at : {X : Type 0} → List (List ℕ × X) → ℕ → Option (List ℕ)
name_at table index = slice_get (keys_of table) index

-- what the taking of a name answers, by what stands there: this value where it is free, else this refusal
abbrev pub taking : {X T E : Type 0} → T → E → Option X → Result T E
taking value already None = Ok value
taking value already (Some one) = Err already
