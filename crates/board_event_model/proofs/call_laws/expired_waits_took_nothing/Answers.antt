use Rattle.board_event_model.proofs.WholeLemmas.{expire_law_holds}
use Rattle.board_event_model.proofs.call_laws.expired_waits_took_nothing.Goals as goal

pub returns : goal.returns
returns c = expire_law_holds
