-- What a new board begins with.
use Rattle.std.specs.Prelude.{◌≡◌, ℕ, ◌<◌, ◌^◌, true, false, nat_lt, List, [], ◌∷◌, map, Option, Some, None}
use Rattle.std.specs.Global.{Vec}
use Rattle.board_layout.specs.declared.shape.CellPlace.{CellPlace}
use Rattle.board_layout.specs.Layout.{opening_words, payload, places_from}
use Rattle.board_model.specs.declared.value.AddedEntry.{AddedEntry}
use Rattle.board_model.specs.Memory.{opening_of}
use Rattle.board_model.specs.Replies.{added_of}
use Rattle.board_model.specs.Tables.{entries_of, shapes_of}
use Rattle.board_model.specs.TypeTable.{value_words}
use Rattle.script_board_rows.specs.declared.new_board.Opening.{Opening}

-- the words of the first values
abbrev pub first_values : List AddedEntry → List (List ℕ)
first_values added = map (λ (e : AddedEntry). value_words e.value) added

-- one value was published of each added entry: the one that was given
abbrev pub AreFirstLists : List (Vec (List ℕ)) → List AddedEntry → Type 0
AreFirstLists lists added = map (λ (v : Vec (List ℕ)). v.items) lists ≡ map (λ (e : AddedEntry). value_words e.value ∷ []) added

-- the cells of the added entries, in their order
abbrev pub cells_for : List AddedEntry → List CellPlace
cells_for added = places_from 0 (shapes_of (map added_of added))

-- the bytes that they ask for
abbrev pub bytes_for : List AddedEntry → ℕ
bytes_for added = payload (shapes_of (map added_of added))

-- a cell whose words have numbers far below 2 ^ 64
abbrev pub IsSmallPlace : CellPlace → Type 0
IsSmallPlace c = (c.first < 2 ^ 40) × (c.head < 2 ^ 40) × (c.words < 2 ^ 40)

-- a board with these cells has these entries and words, and of each entry its first value is published
pub record IsOpenedAt (cells : List CellPlace) (added : List AddedEntry) (o : Opening) : Type 0 where
  pub entries : o.entries.items ≡ entries_of cells (map added_of added)
  pub words : o.words.items ≡ opening_words 0 cells (first_values added)
  pub published : AreFirstLists o.published.items added

-- a new board of the added entries: its cells are where the definitions lay them
pub record IsNewBoard (added : List AddedEntry) (o : Opening) : Type 0 where
  pub small : nat_lt 4294967295 (bytes_for added) ≡ false
  pub entries : o.entries.items ≡ entries_of (cells_for added) (map added_of added)
  pub words : o.words.items ≡ opening_of added
  pub published : AreFirstLists o.published.items added

-- it is opened unless its cells ask for too many bytes
abbrev pub IsOpened : List AddedEntry → Option Opening → Type 0
IsOpened added None = nat_lt 4294967295 (bytes_for added) ≡ true
IsOpened added (Some o) = IsNewBoard added o
