use Rattle.board_model.proofs.IdLaws.{later_alike}
use Rattle.board_model.proofs.id_laws.later_handles_tell_alike.Goals as goal

pub returns : goal.returns
returns c = later_alike
