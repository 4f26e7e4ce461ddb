use Rattle.std.proofs.Common.{◌≡◌, ℕ, Option, Some, take, map, length}
use Rattle.board_handles.proofs.writing.fill.Given as goal

abbrev pub invariant-loop-i : goal.invariant-loop-i
invariant-loop-i l = (length l.words ≡ length l.places) × (map {A = ℕ} {B = Option ℕ} Some (take l.i l.words) ≡ take l.i l.places)
