-- Places of entries that were looked for.
use Rattle.std.specs.Prelude.{◌≡◌, ℕ, Option, Some, None}
use Rattle.board_model.specs.declared.tables.Entry.{Entry}

-- the place of what was found among the entries, and none where nothing was found
abbrev pub place_found : Option (ℕ × Entry) → Option ℕ
place_found None = None
place_found (Some found) = Some found.0

-- the place is that of what the definitions find
abbrev pub IsPlace : Option (ℕ × Entry) → Option ℕ → Type 0
IsPlace found place = place ≡ place_found found
