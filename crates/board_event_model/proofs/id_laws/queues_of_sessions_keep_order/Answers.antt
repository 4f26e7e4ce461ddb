use Rattle.board_event_model.proofs.SessionIdLemmas.{session_queues_ordered}
use Rattle.board_event_model.proofs.id_laws.queues_of_sessions_keep_order.Goals as goal

pub returns : goal.returns
returns c = session_queues_ordered
