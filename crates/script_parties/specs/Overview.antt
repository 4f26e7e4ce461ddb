-- What is told of a board.
use Rattle.std.specs.Prelude.{ℕ, List, [], map, Option, Some, None}
use Rattle.board_model.specs.declared.tables.Board.{Board}
use Rattle.board_model.specs.declared.value.Key.{Key}
use Rattle.board_model.specs.Tables.{Tables}
use Rattle.board_model.specs.Things.{Standing}
use Rattle.board_model.specs.TypeTable.{key_shown, key_type_of}

-- the keys of a board, each from the first bytes that its entry keeps
abbrev pub keys_shown : Option Board → List Key
keys_shown None = []
keys_shown (Some b) = map (key_shown (key_type_of b.key)) b.entries

-- these tables, without loans and values
abbrev pub standing_with : Tables (List ℕ) (List ℕ) → Standing
standing_with t = record { tables = t; loans = λ p n. None; values = λ p n. None }
