-- How far the calls on a cell are, as a checker keeps it.
use Rattle.std.specs.Prelude.{◌≡◌, ℕ, ◌+◌, ◌*◌, ◌<◌, ◌≤◌, ◌^◌, List, length, Option, Some, None, ⊤}
use Rattle.board_layout.specs.declared.shape.CellShape.{CellShape}
use Rattle.board_cell_model.specs.OwedAccesses as model
use Rattle.board_cell_model.specs.OwedAccesses.{finished, opening, owed_read, owed_write, to_read, to_write, trying}
use Rattle.script_board_rows.specs.declared.cell_calls.Reading.{Reading}
use Rattle.script_board_rows.specs.declared.cell_calls.Reading.TheVariants.{Opening, Trying}

-- what is kept of a get: of the words of a try only their number, and nothing of one that is finished
abbrev pub kept_of : model.Reading → Option Reading
kept_of opening = Some Opening
kept_of (trying counter words) = Some (Trying counter (length words))
kept_of (finished counter words) = None

-- all words of the cell have numbers below 2^63
abbrev pub IsSmall : CellShape → Type 0
IsSmall cell = cell.first + cell.head + 2 * cell.words < 2 ^ 63

-- a try has read at most the words of the cell
abbrev pub IsWithin : CellShape → Reading → Type 0
IsWithin cell Opening = ⊤
IsWithin cell (Trying counter read) = read ≤ cell.words

-- a get of which this is kept owes the read of this word
abbrev pub OwesRead : CellShape → Reading → ℕ → Type 0
OwesRead cell kept word = (board : ℕ) (r : model.Reading) → kept_of r ≡ Some kept → owed_read board cell r ≡ to_read board word

-- a get of which this is kept is so far after one more word
abbrev pub Hears : CellShape → Reading → ℕ → Option Reading → Type 0
Hears cell kept word after = (r : model.Reading) → kept_of r ≡ Some kept → after ≡ kept_of (model.hear cell.words r word)

-- a publication at a generation, of which so many words were written, owes the write of this value to this word
abbrev pub OwesWrite : CellShape → ℕ → List ℕ → ℕ → ℕ → ℕ → Type 0
OwesWrite cell generation words written word value = (board : ℕ) → owed_write board cell generation words written ≡ to_write board word value
