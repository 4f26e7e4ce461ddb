use Rattle.board_cell_model.proofs.Hearing.{reading_from-append}
use Rattle.std.proofs.Common.{[], ◌∷◌}
use Rattle.board_cell_model.proofs.laws.a_get_hears_in_order.Goals as goal

pub returns : goal.returns
returns c w r heard word = reading_from-append w r heard (word ∷ [])
