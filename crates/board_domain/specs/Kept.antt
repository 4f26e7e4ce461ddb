-- What a creator asks for, and what a factory keeps of its board.
use Rattle.std.specs.Prelude.{◌≡◌, List, Option, Some, map, option_map}
use Rattle.board_model.specs.declared.attributes.Attribute.{Attribute}
use Rattle.board_model.specs.declared.tables.Board.{Board}
use Rattle.board_model.specs.Tables.{board_at}
use Rattle.board_service.specs.declared.made.Made.{Made}
use Rattle.board_service.specs.declared.told.StaticConfig.{StaticConfig}
use Rattle.board_service.specs.Entries.{as_added}
use Rattle.board_service.specs.Told.{config}
use Rattle.board_handles.specs.BoardEnds.{Core}
use Rattle.board_domain.specs.declared.kept.Asked.{Asked}
use Rattle.board_domain.specs.declared.kept.Kept.{Kept}
use Rattle.board_domain.specs.Services.{CreatorSeen}

-- what callers see of the board that a creator asks for
abbrev pub seen_of : Asked → CreatorSeen
seen_of asked = record { node = asked.node; name = asked.name; limits = asked.limits; entries = map as_added asked.entries.items }

abbrev pub kept_made : Kept → Made
kept_made k = k.made

abbrev pub attributes_of : Board → List Attribute
attributes_of b = b.attributes

-- what is fixed of the board
abbrev pub ShowsBoard : Option Board → StaticConfig → List Attribute → Type 0
ShowsBoard board c attributes = (Some c ≡ option_map config board) × (Some attributes ≡ option_map attributes_of board)

-- what is kept is what is fixed of the board, which stands
abbrev pub KeepsBoard : Core → Kept → Type 0
KeepsBoard d k = ShowsBoard (board_at d.tables k.made.number) k.config k.attributes
