use Rattle.std.proofs.Common.{None, sym, subst, ◌∙◌}
use Rattle.std.specs.HashMap.{get}
use Rattle.script_seats.specs.declared.seats.Seats.{Seats}
use Rattle.script_seats.specs.Seats.{IsIndex, same_seat}
use Rattle.script_seats.proofs.SeatLemmas.{found, only, taken, untouched}
use Rattle.script_seats.proofs.seats.Seats.take.Goals as goal

pub returns-in-Some-clause-index : goal.returns-in-Some-clause-index
returns-in-Some-clause-index c = λ things kept.
    let index = subst (λ (x : Seats). IsIndex x things) c.in-Single.is kept in
    let there = sym c.remove.ensures.value ∙ c.in-Some.is in (
      only (λ s. get same_seat c.in-Single.seats s) things index c.args.seat.now c.in-Some.number there,
      taken (λ s. get same_seat c.in-Single.seats s) things index c.args.seat.now c.in-Some.number there (λ s. get same_seat c.remove.new.self s) c.remove.ensures.updates.0,
    )

pub returns-in-None-clause-index : goal.returns-in-None-clause-index
returns-in-None-clause-index c = λ things kept.
    let index = subst (λ (x : Seats). IsIndex x things) c.in-Single.is kept in
    let none = sym c.remove.ensures.value ∙ c.in-None.is in (
      found (λ s. get same_seat c.in-Single.seats s) things index c.args.seat.now None none,
      untouched (λ s. get same_seat c.in-Single.seats s) things index c.args.seat.now none (λ s. get same_seat c.remove.new.self s) c.remove.ensures.updates.0,
    )
