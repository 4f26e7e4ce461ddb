use Rattle.std.proofs.Common.{refl}
use Rattle.board_model.proofs.worked_updates.an_update_at_once_is_wrong.Goals as goal

pub returns : goal.returns
returns c h = let e = h.1.1.1.1.1.1.1.1.1.1.1.1.1.1.0.word refl in absurd cc
