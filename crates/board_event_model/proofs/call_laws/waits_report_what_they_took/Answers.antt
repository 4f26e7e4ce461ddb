use Rattle.board_event_model.proofs.ReplyLemmas.{reply_law_holds}
use Rattle.board_event_model.proofs.call_laws.waits_report_what_they_took.Goals as goal

pub returns : goal.returns
returns c = reply_law_holds
