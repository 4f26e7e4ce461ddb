use Rattle.std.proofs.Common.{◌≡◌, ◌+◌, ◌<◌, ℕ, length}
use Rattle.std.specs.Prelude.{slice_index}
use Rattle.board_cell.proofs.whole_calls.get_on.Given as goal

abbrev pub invariant-loop-i : goal.invariant-loop-i
invariant-loop-i g l = (g.W.Words.list l.words ≡ g.W.Words.list l.initial.words) × (length l.out.items ≡ length l.initial.out.items)
    × ((k : ℕ) → k < l.i → slice_index (g.W.Words.list l.initial.words) (l.copy + k) ≡ slice_index l.out.items k)
