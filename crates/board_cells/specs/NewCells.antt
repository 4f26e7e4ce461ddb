-- New cells suit the board that they were made for.
use Rattle.std.specs.Prelude.{◌≡◌, ℕ, ◌+◌, List, [], ◌∷◌}
use Rattle.board_layout.specs.Layout.{cell_bytes, places_from, start_of}
use Rattle.board_model.specs.Tables.{Added, entries_of, shape_of, shapes_of}
use Rattle.board_cells.specs.Cells.{AreFor, AreNew, PlaceSeen}

new_from : (at : ℕ) (entries : List Added) (ps : List PlaceSeen) → AreNew entries ps → AreFor (entries_of (places_from at (shapes_of entries)) entries) ps
new_from at [] [] h = tt
new_from at [] (p ∷ ps) h = absurd h
new_from at (a ∷ more) [] h = absurd h
new_from at (a ∷ more) (p ∷ ps) h = (h.0.width, new_from (start_of at (shape_of a) + cell_bytes (shape_of a)) more ps h.1)

pub new_ones : (entries : List Added) (ps : List PlaceSeen) → AreNew entries ps → AreFor (entries_of (places_from 0 (shapes_of entries)) entries) ps
new_ones entries ps h = new_from 0 entries ps h
