use Rattle.std.proofs.Common.{Some, None, sym, subst, ◌∙◌}
use Rattle.std.specs.HashMap.{get}
use Rattle.script_seats.specs.declared.seats.Seats.{Seats}
use Rattle.script_seats.specs.Seats.{IsIndex, same_seat}
use Rattle.script_seats.proofs.SeatLemmas.{found}
use Rattle.script_seats.proofs.seats.Seats.find.Goals as goal

pub returns-in-Some-clause-found : goal.returns-in-Some-clause-found
returns-in-Some-clause-found c = λ things kept.
    let index = subst (λ (x : Seats). IsIndex x things) c.in-Single.is kept in
    found (λ s. get same_seat c.in-Single.seats s) things index c.args.seat.now (Some c.in-Some.number) (sym (c.copied.ensures ∙ c.get.ensures.value) ∙ c.in-Some.is)

pub returns-in-None-clause-found : goal.returns-in-None-clause-found
returns-in-None-clause-found c = λ things kept.
    let index = subst (λ (x : Seats). IsIndex x things) c.in-Single.is kept in
    found (λ s. get same_seat c.in-Single.seats s) things index c.args.seat.now None (sym (c.copied.ensures ∙ c.get.ensures.value) ∙ c.in-None.is)
