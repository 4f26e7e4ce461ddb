-- How the places of a board are seen. No public clause cites this module.
use Rattle.std.specs.Prelude.{List, map, option_map}
use Rattle.std.specs.Arc.{arc_value}
use Rattle.board_cells.specs.declared.place.Place.{Place}
use Rattle.board_cells.specs.Cells.{PlaceSeen}
use Rattle.board_cells.specs.Ends.{end_seen}

abbrev pub place_seen : Place → PlaceSeen
place_seen p = record { cell = arc_value p.read.cell; parked = option_map end_seen p.parked }

abbrev pub places_seen : List Place → List PlaceSeen
places_seen places = map place_seen places
