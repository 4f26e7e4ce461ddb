use Rattle.std.proofs.Common.{◌≡◌}
use Rattle.board_trips.proofs.trips.echo.Given as goal

abbrev pub invariant-loop : goal.invariant-loop
invariant-loop g l = l.echoes ≡ l.counter
