use Rattle.board_model.proofs.WorkedLemmas.{in_place_wrong}
use Rattle.board_model.proofs.worked_sessions.an_update_in_place_is_wrong.Goals as goal

pub returns : goal.returns
returns c = in_place_wrong
