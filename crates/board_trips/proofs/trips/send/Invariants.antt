use Rattle.std.proofs.Common.{◌≡◌}
use Rattle.board_trips.proofs.trips.send.Given as goal

abbrev pub invariant-loop-i : goal.invariant-loop-i
invariant-loop-i g l = l.made ≡ l.i
