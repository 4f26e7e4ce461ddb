-- How a map leads from the bytes of keys to the places of a board's entries. No public clause speaks of it.
use Rattle.std.specs.Prelude.{◌≡◌, ℕ, Bool, List, Option, take}
use Rattle.std.specs.List.{AllByRecursion, position_from}
use Rattle.std.specs.Str.{bytes_eq}
use Rattle.board_layout.specs.Keys.{IsKeyBytes}
use Rattle.board_model.specs.declared.tables.Entry.{Entry}

-- whether two keys of this size have the same bytes
abbrev pub has_bytes : ℕ → List ℕ → List ℕ → Bool
has_bytes size key k = bytes_eq (take size k) (take size key)

-- these are the bytes of the entry's key
abbrev pub is_of_bytes : ℕ → List ℕ → Entry → Bool
is_of_bytes size bytes e = bytes_eq (take size e.key.bytes) bytes

-- Under each key's bytes stands the place of the first entry that has them, where the first of these entries stands at a place. Keys are of bytes.
pub record AreKeyPlaces (size at : ℕ) (entries : List Entry) (places : List ℕ → Option ℕ) : Type 0 where
  pub first : (bytes : List ℕ) → places bytes ≡ position_from (is_of_bytes size bytes) at entries
  pub each : AllByRecursion (λ e. IsKeyBytes e.key.bytes) entries
