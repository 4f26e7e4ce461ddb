use Rattle.board_event_model.proofs.IdLemmas.{queues_ordered}
use Rattle.board_event_model.proofs.id_laws.queues_keep_order.Goals as goal

pub returns : goal.returns
returns c = queues_ordered
