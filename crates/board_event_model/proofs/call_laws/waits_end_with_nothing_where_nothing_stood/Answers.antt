use Rattle.board_event_model.proofs.EndLemmas.{none_law_holds}
use Rattle.board_event_model.proofs.call_laws.waits_end_with_nothing_where_nothing_stood.Goals as goal

pub returns : goal.returns
returns c = none_law_holds
