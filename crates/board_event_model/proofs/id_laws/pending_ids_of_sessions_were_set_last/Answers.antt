use Rattle.board_event_model.proofs.SessionIdLemmas.{session_set_last}
use Rattle.board_event_model.proofs.id_laws.pending_ids_of_sessions_were_set_last.Goals as goal

pub returns : goal.returns
returns c = session_set_last
