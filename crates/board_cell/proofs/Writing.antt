-- The accesses of a publication, one by one.
use Rattle.std.proofs.Common.{◌≡◌, ℕ, suc, ◌+◌, ◌-◌, ◌≤◌, List, [], ◌∷◌, ◌++◌, length, ap, sym, ◌∙◌, append_assoc, arith}
use Rattle.board_layout.specs.declared.shape.CellShape.{CellShape}
use Rattle.board_cell_model.specs.OwedAccesses.{Owed, owed_write}
use Rattle.board_cell.specs.Calls.{Updating}
use Rattle.board_cell.specs.Runs.{owed_writes, owed_writes_from}

-- an access that is owed comes before those after it
pub owed_writes_step : (board : ℕ) (c : CellShape) (g : ℕ) (words : List ℕ) (k : ℕ) → k ≤ length words → owed_writes board c g words k ≡ owed_write board c g words k ∷ owed_writes board c g words (k + 1)
owed_writes_step board c g words k owed = ap (owed_writes_from board c g words k) (let e : length words + 1 - k ≡ suc (length words + 1 - (k + 1)) = omega arith in e)

-- behind the counter nothing is owed
pub owed_writes_end : (board : ℕ) (c : CellShape) (g : ℕ) (words : List ℕ) → owed_writes board c g words (length words + 1) ≡ []
owed_writes_end board c g words = ap (owed_writes_from board c g words (length words + 1)) (let e : length words + 1 - (length words + 1) ≡ 0 = omega arith in e)

-- one access more, and the rest
pub update_goes_on : (board : ℕ) (c : CellShape) (g : ℕ) (words : List ℕ) (k : ℕ) (before so_far : List Owed) → k ≤ length words → so_far ++ owed_writes board c g words k ≡ before → (so_far ++ owed_write board c g words k ∷ []) ++ owed_writes board c g words (k + 1) ≡ before
update_goes_on board c g words k before so_far owed same = append_assoc so_far (owed_write board c g words k ∷ []) (owed_writes board c g words (k + 1)) ∙ ap (λ os. so_far ++ os) (sym (owed_writes_step board c g words k owed)) ∙ same

-- the same for a call at its next access
pub update_steps : (board : ℕ) (start now after : Updating) (before so_far later : List Owed) → now ≡ record start { written = now.written } → after ≡ record now { written = now.written + 1 } → now.written ≤ length start.words → later ≡ so_far ++ owed_write board now.shape now.generation now.words now.written ∷ [] → so_far ++ owed_writes board start.shape start.generation start.words now.written ≡ before → later ++ owed_writes board start.shape start.generation start.words after.written ≡ before
update_steps board start now after before so_far later is stepped owed more same = ap (λ (ls : List Owed). ls ++ owed_writes board start.shape start.generation start.words after.written) (more ∙ ap (λ (u : Updating). so_far ++ owed_write board u.shape u.generation u.words u.written ∷ []) is) ∙ ap (λ (u : Updating). (so_far ++ owed_write board start.shape start.generation start.words now.written ∷ []) ++ owed_writes board start.shape start.generation start.words u.written) stepped ∙ update_goes_on board start.shape start.generation start.words now.written before so_far owed same
