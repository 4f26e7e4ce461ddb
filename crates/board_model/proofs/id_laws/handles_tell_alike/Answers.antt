use Rattle.board_model.proofs.IdLaws.{tell_alike}
use Rattle.board_model.proofs.id_laws.handles_tell_alike.Goals as goal

pub returns : goal.returns
returns c = tell_alike
