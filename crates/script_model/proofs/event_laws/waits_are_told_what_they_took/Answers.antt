use Rattle.script_model.proofs.EventLemmas.{wait_replies}
use Rattle.script_model.proofs.event_laws.waits_are_told_what_they_took.Goals as goal

pub returns : goal.returns
returns c = wait_replies
