use Rattle.std.proofs.Common.{take}
use Rattle.script_seats.specs.Seats.{is_at}
use Rattle.script_things.specs.Places.{IsNowhere}
use Rattle.script_things.proofs.lookups.first_place.Given as goal

-- none of those before is the one
abbrev pub invariant-loop-i : goal.invariant-loop-i
invariant-loop-i l = IsNowhere (is_at l.seat) (take l.i l.places)
