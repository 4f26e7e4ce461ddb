use Rattle.script_model.proofs.WorkedEvent.{expire_wrong}
use Rattle.script_model.proofs.worked_events.an_early_expire_is_wrong.Goals as goal

pub returns : goal.returns
returns c = expire_wrong
