-- What a thread that has a domain alone reads and writes of an entry.
use Rattle.std.specs.Prelude.{◌≡◌, ℕ, ◌+◌, ◌&&◌, Bool, false, ◌==◌, nat_le, nat_lt, if◌then◌else◌, List, length, Option, Some, None, option_map, Result, Ok, Err}
use Rattle.board_layout.specs.declared.shape.CellShape.{CellShape}
use Rattle.board_layout.specs.declared.type_detail.TypeDetail.{TypeDetail}
use Rattle.board_layout.specs.Layout.{cell_end}
use Rattle.board_cell.specs.WholeCalls.{HasValue, PublishesIn, generation_in}
use Rattle.board_model.specs.declared.tables.ThingKind.{ThingKind}
use Rattle.board_service.specs.declared.made.Found.{Found}
use Rattle.board_service.specs.Told.{found_of}
use Rattle.board_service.specs.Domain.{Domain, cells_of, held, stands_as, with_cells}
use Rattle.board_seats.specs.declared.update_error.UpdateError.{UpdateError}
use Rattle.board_seats.specs.declared.update_error.UpdateError.TheVariants.{HandleUnknown, GenerationsSpent}

-- a domain whose boards are lists of words
abbrev pub Words : Type 0
Words = Domain (List ℕ)

-- whether the cell lies among the words, with its counter before its copies
abbrev pub lies_among : CellShape → List ℕ → Bool
lies_among shape words = nat_lt 0 shape.head && nat_le (cell_end shape) (length words)

-- the words, where the cell lies among them
abbrev pub words_with : CellShape → Option (List ℕ) → Option (List ℕ)
words_with shape None = None
words_with shape (Some words) = if lies_among shape words then Some words else None

-- the number of the board of a handle
abbrev pub board_of : Words → Found → ℕ
board_of d entry = (held d entry.thing).board

-- whether this is what the tables have for the handle: its entry, with its place and its cell
abbrev pub names : Option Found → Found → Bool
names None entry = false
names (Some f) entry =
    (f.entry == entry.entry) && (f.place == entry.place)
    && (f.shape.first == entry.shape.first) && (f.shape.head == entry.shape.head) && (f.shape.words == entry.shape.words)

-- the handle is held, and its entry is the one that was found
abbrev pub is_found : Words → TypeDetail → Found → ThingKind → Bool
is_found d keys entry k = stands_as d keys entry.thing k && names (found_of d entry.thing) entry

-- the words of a handle's board: there where the handle is held, its entry is the one that was found, and the entry's cell lies among them
abbrev pub words_for : Words → TypeDetail → Found → ThingKind → Option (List ℕ)
words_for d keys entry k = if is_found d keys entry k then words_with entry.shape (cells_of d (board_of d entry)) else None

-- ---- reads

-- this generation and value are the cell's
abbrev pub IsRead : CellShape → Option (List ℕ) → ℕ → List ℕ → Type 0
IsRead shape None generation value = ⊥
IsRead shape (Some words) generation value = (generation ≡ generation_in shape words) × HasValue shape words value

-- whether the cell is at this generation
abbrev pub is_at : CellShape → ℕ → List ℕ → Bool
is_at shape generation words = generation_in shape words == generation

-- ---- updates

-- the number of the published value; 2^64 - 1 is the last
abbrev pub update_answer : CellShape → Option (List ℕ) → Result ℕ UpdateError
update_answer shape None = Err HandleUnknown
update_answer shape (Some words) = if nat_le 18446744073709551615 (generation_in shape words) then Err GenerationsSpent else Ok (generation_in shape words + 1)

-- the value was published in the cell of the board, whose words were these, and nothing else changed
abbrev pub Updates : CellShape → List ℕ → Option (List ℕ) → Words → Words → ℕ → Type 0
Updates shape value None old new board = ⊥
Updates shape value (Some words) old new board = (after : List ℕ) × PublishesIn shape value words after × (new ≡ with_cells old board after)
