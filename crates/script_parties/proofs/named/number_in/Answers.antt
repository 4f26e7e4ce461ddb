use Rattle.std.proofs.Common.{ℕ, Option, sym, subst}
use Rattle.std.specs.Prelude.{nat_eq}
use Rattle.std.specs.HashMap.{get, keys}
use Rattle.script_parties.specs.Numbered.{IsFirst, is_seat}
use Rattle.script_seats.specs.Seats.{Finds, SeatOf, is_at}
use Rattle.script_parties.proofs.Firsts.{all_keys, first_of_all, only_first}
use Rattle.script_parties.proofs.NamesAndThings.{first_of}
use Rattle.script_parties.proofs.named.number_in.Goals as goal

pub returns-in-Nothing : goal.returns-in-Nothing
returns-in-Nothing c = λ things are finds. subst (Finds (is_at c.args.seat.now) things) c.in-Nothing.is finds

pub returns-in-Only : goal.returns-in-Only
returns-in-Only c = λ things are finds. only_first (is_at c.args.seat.now) things c.in-Only.number (subst (Finds (is_at c.args.seat.now) things) c.in-Only.is finds)

pub returns-in-Unknown : goal.returns-in-Unknown
returns-in-Unknown c = λ things are finds.
    let names : ℕ → Option SeatOf = λ n. get nat_eq c.args.names.now n in
    let p = is_seat c.args.seat.now in
    first_of c.args.seat.now names things are c.first_number.result
    (subst (IsFirst p names) (sym c.first_number.ensures) (first_of_all p names (keys c.args.names.now) (all_keys p c.args.names.now)))
