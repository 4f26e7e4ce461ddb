use Rattle.std.proofs.Common.{take, map}
use Rattle.board_service.specs.Entries.{as_added}
use Rattle.board_cells.specs.Cells.{AreNew}
use Rattle.board_cells.specs.Places.{places_seen}
use Rattle.board_cells.proofs.making.new_places.Given as goal

abbrev pub invariant-loop-entry : goal.invariant-loop-entry
invariant-loop-entry l = AreNew (map as_added (take l.entry-index l.entries)) (places_seen l.places.items)
