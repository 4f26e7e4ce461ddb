use Rattle.board_event_model.proofs.EndLemmas.{notify_law_holds}
use Rattle.board_event_model.proofs.call_laws.notifies_make_pending.Goals as goal

pub returns : goal.returns
returns c = notify_law_holds
