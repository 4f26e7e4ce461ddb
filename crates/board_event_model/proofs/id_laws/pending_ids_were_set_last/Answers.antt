use Rattle.board_event_model.proofs.IdLemmas.{pending_set_last}
use Rattle.board_event_model.proofs.id_laws.pending_ids_were_set_last.Goals as goal

pub returns : goal.returns
returns c = pending_set_last
