use Rattle.board_event_model.proofs.WholeLemmas.{all_law_holds}
use Rattle.board_event_model.proofs.call_laws.waits_for_all_miss_no_id.Goals as goal

pub returns : goal.returns
returns c = all_law_holds
