use Rattle.script_model.proofs.WorkedEvent.{newest_wrong}
use Rattle.script_model.proofs.worked_events.the_newest_id_first_is_wrong.Goals as goal

pub returns : goal.returns
returns c = newest_wrong
