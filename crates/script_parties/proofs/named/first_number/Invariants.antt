use Rattle.std.proofs.Common.{◌≡◌, None}
use Rattle.std.specs.Prelude.{nat_eq}
use Rattle.std.specs.HashMap.{get, keys}
use Rattle.script_parties.specs.Numbered.{earliest, is_seat}
use Rattle.script_parties.proofs.named.first_number.Given as goal

-- the first of those so far and those that are left is the first of all
abbrev pub invariant-loop-number : goal.invariant-loop-number
invariant-loop-number l = earliest (is_seat l.seat) (λ n. get nat_eq l.names n) l.first l.number-iterator ≡ earliest (is_seat l.seat) (λ n. get nat_eq l.names n) None (keys l.names)
