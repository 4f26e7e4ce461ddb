use Rattle.std.proofs.Common.{◌≡◌, ℕ, ◌-◌, List, ◌++◌, length, drop, ap, ◌∙◌}
use Rattle.std.specs.Prelude.{replicate}
use Rattle.std.proofs.lemmas.List.{drop-replicate}
use Rattle.board_model.proofs.type_table.key_memory.Goals as goal

-- zeros behind a text are those that the array had
with_zeros : (text front : List ℕ) → front ≡ text → front ++ drop (length text) (replicate 64 0) ≡ text ++ replicate (64 - length text) 0
with_zeros text front e = ap (λ (zs : List ℕ). front ++ zs) (drop-replicate (length text) 64 0) ∙ ap (λ (fs : List ℕ). fs ++ replicate (64 - length text) 0) e

pub returns : goal.returns
returns c = with_zeros c.args.bytes.now _ c.copy_from_slice.ensures.after
