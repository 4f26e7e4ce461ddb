use Rattle.std.proofs.Common.{◌≡◌, ◌+◌, ◌<◌, ◌≤◌, ℕ, length}
use Rattle.std.specs.Prelude.{slice_index}
use Rattle.board_cell_model.specs.OwedAccesses.{spare_at}
use Rattle.board_cell.proofs.whole_calls.update_on.Given as goal

abbrev pub invariant-loop-i : goal.invariant-loop-i
invariant-loop-i g l = (length (g.W.Words.list l.words) ≡ length (g.W.Words.list l.initial.words))
    × ((k : ℕ) → k < l.i → slice_index (g.W.Words.list l.words) (spare_at l.shape l.generation + k) ≡ slice_index l.value.items k)
    × ((k : ℕ) → k < spare_at l.shape l.generation → slice_index (g.W.Words.list l.words) k ≡ slice_index (g.W.Words.list l.initial.words) k)
    × ((k : ℕ) → spare_at l.shape l.generation + l.shape.words ≤ k → slice_index (g.W.Words.list l.words) k ≡ slice_index (g.W.Words.list l.initial.words) k)
