use Rattle.std.proofs.Common.{Option, Some, None, refl, sym, ap, subst, ◌∙◌}
use Rattle.std.specs.Prelude.{ℕ, cond, is_some}
use Rattle.std.specs.HashMap.{get}
use Rattle.script_seats.specs.declared.seats.Seats.{Seats}
use Rattle.script_seats.specs.Seats.{IsIndex, SeatOf, same_seat}
use Rattle.script_seats.proofs.SeatLemmas.{found, only, renamed, untouched}
use Rattle.script_seats.proofs.seats.Seats.rename.Goals as goal

pub returns-in_default-remove-clause-index : goal.returns-in_default-remove-clause-index
returns-in_default-remove-clause-index c = λ things kept.
    let from : SeatOf = record { party = c.args.party.now; name = c.args.old.now } in
    let index = subst (λ (x : Seats). IsIndex x things) c.in-Single.is kept in
    let none = sym c.remove.ensures.value ∙ c.in_default-remove.is in (
      found (λ s. get same_seat c.in-Single.seats s) things index from None none,
      untouched (λ s. get same_seat c.in-Single.seats s) things index from none (λ s. get same_seat c.remove.new.self s) c.remove.ensures.updates.0,
    )

pub returns-clause-index : goal.returns-clause-index
returns-clause-index c = λ things kept.
    let from : SeatOf = record { party = c.args.party.now; name = c.args.old.now } in
    let to : SeatOf = record { party = c.args.party.now; name = c.args.new.now } in
    let index = subst (λ (x : Seats). IsIndex x things) c.in-Single.is kept in
    let there = sym c.remove.ensures.value ∙ c.in-Some.is in
    let free = sym (c.contains_key.ensures ∙ ap is_some (c.remove.ensures.updates.0 to)) ∙ c.if-contains_key.false in
    record {
      only = only (λ s. get same_seat c.in-Single.seats s) things index from c.in-Some.number there;
      index = renamed (λ s. get same_seat c.in-Single.seats s) things index from c.in-Some.number there to refl free
          (λ s. get same_seat c.insert.new.self s) (λ s. c.in-Ok.ensures.updates.0 s ∙ ap (λ (o : Option ℕ). cond (same_seat to s) (Some c.in-Some.number) o) (c.remove.ensures.updates.0 s));
    }
