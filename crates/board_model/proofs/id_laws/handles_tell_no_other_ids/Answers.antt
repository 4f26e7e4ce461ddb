use Rattle.board_model.proofs.IdLaws.{tell_no_others}
use Rattle.board_model.proofs.id_laws.handles_tell_no_other_ids.Goals as goal

pub returns : goal.returns
returns c = tell_no_others
