use Rattle.script_model.proofs.EventPartLemmas.{queues_ordered}
use Rattle.script_model.proofs.event_laws.queues_keep_order.Goals as goal

pub returns : goal.returns
returns c = queues_ordered
