-- A map without entries.
use Rattle.std.proofs.Common.{◌≡◌, List, [], ◌∷◌, refl, None}
use Rattle.std.specs.Prelude.{length}
use Rattle.std.specs.HashMap.{HashMap, get}
use Rattle.std.specs.Map.{lookup}
use Rattle.script_seats.specs.Seats.{SeatOf, same_seat}

-- nothing is under any seat
pub none_under : {X S : Type 0} (map : HashMap SeatOf X S) → length map.entries ≡ 0 → (s : SeatOf) → get same_seat map s ≡ None
none_under {X} map e s = by map.entries e
  where
    by : (es : List (SeatOf × X)) → length es ≡ 0 → lookup (same_seat s) es ≡ None
    by [] e = refl
    by (x ∷ es) e = absurd cc
