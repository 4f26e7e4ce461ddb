use Rattle.board_model.proofs.WorkedLemmas.{hasty_wrong}
use Rattle.board_model.proofs.worked_sessions.no_second_look_is_wrong.Goals as goal

pub returns : goal.returns
returns c = hasty_wrong
