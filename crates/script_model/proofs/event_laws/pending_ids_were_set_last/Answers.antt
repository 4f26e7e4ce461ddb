use Rattle.script_model.proofs.EventPartLemmas.{pending_set_last}
use Rattle.script_model.proofs.event_laws.pending_ids_were_set_last.Goals as goal

pub returns : goal.returns
returns c = pending_set_last
