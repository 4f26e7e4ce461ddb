use Rattle.std.proofs.Common.{subst}
use Rattle.script_seats.specs.Seats.{Finds, is_at}
use Rattle.script_things.specs.Places.{under}
use Rattle.script_things.proofs.PlaceLemmas.{first_of_only}
use Rattle.script_things.proofs.UnderLemmas.{none_under, only_under}
use Rattle.script_things.proofs.lookups.place_of.Goals as goal

pub returns-in-Nothing : goal.returns-in-Nothing
returns-in-Nothing c =
    let places = c.args.places.now in
    none_under (is_at c.args.seat.now) places (subst (Finds (is_at c.args.seat.now) (under places)) c.in-Nothing.is (c.find.ensures.found (under places) c.requires))

pub returns-in-Only : goal.returns-in-Only
returns-in-Only c =
    let places = c.args.places.now in
    let only = only_under (is_at c.args.seat.now) places c.in-Only.place (subst (Finds (is_at c.args.seat.now) (under places)) c.in-Only.is (c.find.ensures.found (under places) c.requires)) in
    first_of_only (is_at c.args.seat.now) places c.in-Only.place only
