use Rattle.board_model.proofs.id_laws.other_entries_other_ids.Goals as goal
use Rattle.board_model.proofs.IdLaws.{other_ids}

pub returns : goal.returns
returns c = other_ids
