use Rattle.board_model.proofs.IdLaws.{tell_others}
use Rattle.board_model.proofs.id_laws.other_entries_tell_other_ids.Goals as goal

pub returns : goal.returns
returns c = tell_others
