use Rattle.std.proofs.Common.{subst}
use Rattle.script_parties.specs.Numbered.{IsFirst}
use Rattle.script_seats.specs.Seats.{is_at}
use Rattle.script_parties.proofs.Firsts.{finds}
use Rattle.script_parties.proofs.named.NamedThings.take.Goals as goal

pub returns-clause-number : goal.returns-clause-number
returns-clause-number c = λ things k.
    let p = is_at c.args.seat.now in
    subst (IsFirst p things) c.in-Some.is (c.number_in.ensures things k.names (finds p things c.take-sought.new.self c.take-sought.result (c.take-sought.ensures.index things k.index)))
