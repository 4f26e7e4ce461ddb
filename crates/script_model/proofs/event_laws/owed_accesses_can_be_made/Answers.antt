use Rattle.script_model.proofs.EventLemmas.{owed_accesses}
use Rattle.script_model.proofs.event_laws.owed_accesses_can_be_made.Goals as goal

pub returns : goal.returns
returns c = owed_accesses
