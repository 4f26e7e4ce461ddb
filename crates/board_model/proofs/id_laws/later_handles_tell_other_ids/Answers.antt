use Rattle.board_model.proofs.IdLaws.{later_others}
use Rattle.board_model.proofs.id_laws.later_handles_tell_other_ids.Goals as goal

pub returns : goal.returns
returns c = later_others
