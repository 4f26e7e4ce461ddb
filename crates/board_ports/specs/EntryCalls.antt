-- The calls on an entry's cell of this shape, before their first access.
use Rattle.std.specs.Prelude.{ℕ, false, List, None}
use Rattle.board_layout.specs.declared.shape.CellShape.{CellShape}
use Rattle.board_cell_model.specs.OwedAccesses.{opening}
use Rattle.board_cell.specs.Calls.{Getting, Asking, Updating, Putting, Publishing}

abbrev pub get_of : CellShape → Getting
get_of shape = record { shape = shape; reading = opening }

-- whether the counter is still this generation
abbrev pub fresh_of : CellShape → ℕ → Asking
fresh_of shape generation = record { shape = shape; generation = generation; counter = None }

-- a publication of these words, the next one after this generation
abbrev pub update_of : CellShape → ℕ → List ℕ → Updating
update_of shape generation words = record { shape = shape; generation = generation; words = words; written = 0 }

-- a word for the copy that is spare at this generation
abbrev pub put_of : CellShape → ℕ → ℕ → ℕ → Putting
put_of shape generation index word = record { shape = shape; generation = generation; index = index; word = word; done = false }

-- the counter goes up from this generation
abbrev pub publish_of : CellShape → ℕ → Publishing
publish_of shape generation = record { shape = shape; generation = generation; done = false }
