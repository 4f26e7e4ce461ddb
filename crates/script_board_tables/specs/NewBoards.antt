-- A new board with its entries laid out.
use Rattle.std.specs.Prelude.{ℕ, List}
use Rattle.board_layout.specs.declared.type_detail.TypeDetail.{TypeDetail}
use Rattle.board_model.specs.declared.attributes.Attribute.{Attribute}
use Rattle.board_model.specs.declared.tables.Board.{Board}
use Rattle.board_model.specs.declared.tables.Entry.{Entry}
use Rattle.board_model.specs.declared.tables.NewLimits.{NewLimits}
use Rattle.board_model.specs.Tables.{limit_of}

-- a board of these entries, with its limits settled
abbrev pub board_of : ℕ → List ℕ → TypeDetail → NewLimits → List Attribute → List Entry → Board
board_of number name key limits attributes entries = record {
  number = number;
  name = name;
  key = key;
  max_readers = limit_of 8 limits.shared.max_readers;
  max_nodes = limit_of 20 limits.shared.max_nodes;
  max_writers = limit_of 1 limits.max_writers;
  attributes = attributes;
  entries = entries;
}
