use Rattle.board_model.proofs.id_laws.entries_have_other_places.Goals as goal
use Rattle.board_model.proofs.IdLaws.{other_places}

pub returns : goal.returns
returns c = other_places
