use Rattle.std.proofs.Common.{sym, subst}
use Rattle.script_seats.specs.declared.seats.Seats.{Seats}
use Rattle.script_seats.specs.Seats.{IsIndex, IsNumberOf, is_at}
use Rattle.script_seats.proofs.seats.Seats.reserve.Goals as goal

pub returns-in-Single-clause-index : goal.returns-in-Single-clause-index
returns-in-Single-clause-index c = λ things kept s.
    let index = subst (λ (x : Seats). IsIndex x things) c.in-Single.is kept in
    subst (IsNumberOf (is_at s) things) (sym (c.reserve.ensures.entries.2 s)) (index s)
