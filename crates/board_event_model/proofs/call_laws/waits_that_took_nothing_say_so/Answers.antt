use Rattle.board_event_model.proofs.NothingLemmas.{nothing_law_holds}
use Rattle.board_event_model.proofs.call_laws.waits_that_took_nothing_say_so.Goals as goal

pub returns : goal.returns
returns c = nothing_law_holds
