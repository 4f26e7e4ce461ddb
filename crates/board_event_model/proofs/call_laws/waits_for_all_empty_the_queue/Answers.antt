use Rattle.board_event_model.proofs.EndLemmas.{queue_law_holds}
use Rattle.board_event_model.proofs.call_laws.waits_for_all_empty_the_queue.Goals as goal

pub returns : goal.returns
returns c = queue_law_holds
