use Rattle.std.proofs.Common.{◌≡◌, true, get_or, rules, ap, ◌∙◌, Option, Some}
use Rattle.board_model.specs.Tables.{holds_at}
use Rattle.board_model.specs.Things.{Held}
use Rattle.script_seats.specs.Seats.{is_at}
use Rattle.script_things.proofs.PlaceLemmas.{first_after}
use Rattle.script_things.proofs.lookups.first_place.Goals as goal

abbrev a_thing : Held → Option Held
a_thing t = Some t

pub returns-then-eq-2 : goal.returns-then-eq-2
returns-then-eq-2 c =
    let its : is_at c.args.seat.now c.in-Some.thing ≡ true = search rules in
    let read : get_or c.args.places.now c.loop-i.i c.index-places-i.result ≡ a_thing c.in-Some.thing = search rules in
    first_after (is_at c.args.seat.now) c.args.places.now c.loop-i.i c.index-places-i.result c.loop-i.invariant (search rules) (ap (λ (o : Option Held). holds_at o (is_at c.args.seat.now)) read ∙ its)
