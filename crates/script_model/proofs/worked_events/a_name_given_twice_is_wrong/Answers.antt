use Rattle.script_model.proofs.WorkedEvent.{name_wrong}
use Rattle.script_model.proofs.worked_events.a_name_given_twice_is_wrong.Goals as goal

pub returns : goal.returns
returns c = name_wrong
