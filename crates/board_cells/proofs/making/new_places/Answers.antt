use Rattle.std.proofs.Common.{List, ◌+◌, take, map, subst, sym}
use Rattle.board_service.specs.Entries.{as_added}
use Rattle.board_cells.specs.declared.place.Place.{Place}
use Rattle.board_cells.specs.Cells.{AreNew}
use Rattle.board_cells.specs.Places.{places_seen}
use Rattle.board_cells.proofs.NewPlaces.{one_more}
use Rattle.board_cells.proofs.making.new_places.Goals as goal

pub loop-entry-preserved : goal.loop-entry-preserved
loop-entry-preserved c =
    subst (λ (v : List Place). AreNew (map as_added (take (c.loop-entry.entry-index + 1) c.args.entries.now)) (places_seen v)) (sym c.in_ok-push.ensures.items)
    (one_more c.args.entries.now c.loop-entry.places.items c.loop-entry.entry-index c.entry-item.result c.in_ok-new_place.field-0 c.loop-entry-test.true c.entry-item.is c.loop-entry.invariant c.in_ok-new_place.ensures)
