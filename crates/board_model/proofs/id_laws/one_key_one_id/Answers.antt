use Rattle.board_model.proofs.id_laws.one_key_one_id.Goals as goal
use Rattle.board_model.proofs.IdLaws.{one_id}

pub returns : goal.returns
returns c = one_id
