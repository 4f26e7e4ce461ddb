use Rattle.std.proofs.Common.{◌≡◌, true, false, sym, subst, ◌∙◌}
use Rattle.std.specs.HashMap.{get}
use Rattle.script_seats.specs.declared.seats.Seats.{Seats}
use Rattle.script_seats.specs.Seats.{IsIndex, same_seat, seat_of}
use Rattle.script_seats.proofs.SeatLemmas.{pushed, stands}
use Rattle.script_seats.proofs.seats.Seats.push.Goals as goal

pub returns-clause-index : goal.returns-clause-index
returns-clause-index c = λ things kept none.
    let index = subst (λ (x : Seats). IsIndex x things) c.in-Single.is kept in
    pushed (λ s. get same_seat c.in-Single.seats s) things index c.args.thing.now c.args.number none (sym c.contains_key.ensures ∙ c.if-contains_key.false)
    (λ s. get same_seat c.insert.new.self s) c.in-Ok.ensures.updates.0

pub returns-then-contains_key-clause-kept : goal.returns-then-contains_key-clause-kept
returns-then-contains_key-clause-kept c = λ things kept none.
    let index = subst (λ (x : Seats). IsIndex x things) c.in-Single.is kept in
    absurd (
    let one : true ≡ false = stands (λ s. get same_seat c.in-Single.seats s) things index (seat_of c.args.thing.now) (sym c.contains_key.ensures ∙ c.if-contains_key.true) none in cc)
