use Rattle.board_model.proofs.IdLaws.{handles_tell}
use Rattle.board_model.proofs.id_laws.handles_tell_their_ids.Goals as goal

pub returns : goal.returns
returns c = handles_tell
