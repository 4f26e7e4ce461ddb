-- The word memory: of each board number its words.
use Rattle.std.specs.Prelude.{◌≡◌, ℕ, ◌==◌, if◌then◌else◌, List, map, slice_get, slice_set, Some}
use Rattle.board_layout.specs.Layout.{opening_words, places_from}
use Rattle.board_cell_model.specs.declared.access.Access.{Access}
use Rattle.board_cell_model.specs.declared.access.Access.TheVariants as access
use Rattle.board_model.specs.declared.answer.Reply.{Reply}
use Rattle.board_model.specs.declared.answer.Reply.TheVariants as reply
use Rattle.board_model.specs.declared.value.AddedEntry.{AddedEntry}
use Rattle.board_model.specs.TypeTable.{value_words}
use Rattle.board_model.specs.Tables.{shapes_of}
use Rattle.board_model.specs.Requests.{Request, create, table}
use Rattle.board_model.specs.Replies.{added_of}

-- a word that is read is the one that stands
abbrev pub IsStanding : (ℕ → List ℕ) → Access → Type 0
IsStanding memory access.Table = Unit {0}
IsStanding memory (access.Read board word value) = slice_get (memory board) word ≡ Some value
IsStanding memory (access.Write board word value) = Unit {0}

-- a write sets its one word
abbrev pub store : (ℕ → List ℕ) → ℕ → ℕ → ℕ → ℕ → List ℕ
store memory board word value n = if n == board then slice_set (memory n) word value else memory n

-- the words of the boards after an access: only a write changes them
abbrev pub after_access : (ℕ → List ℕ) → Access → ℕ → List ℕ
after_access memory access.Table = memory
after_access memory (access.Read board word value) = memory
after_access memory (access.Write board word value) = store memory board word value

-- of each cell the counter is 1, the first copy is the added value, and all else is 0
abbrev pub opening_of : List AddedEntry → List ℕ
opening_of entries = opening_words 0 (places_from 0 (shapes_of (map added_of entries))) (map (λ (e : AddedEntry). value_words e.value) entries)

-- the board with this number has these words, and the others stay as they are
abbrev pub with_board : (ℕ → List ℕ) → ℕ → List ℕ → ℕ → List ℕ
with_board memory board words n = if n == board then words else memory n

-- a board that a call opens has its opening words
abbrev pub memory_after : (ℕ → List ℕ) → Request → Reply → ℕ → List ℕ
memory_after memory (table (create f name k limits attributes entries)) (reply.Number n) = with_board memory n (opening_of entries)
memory_after memory request told = memory
