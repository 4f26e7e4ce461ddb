use Rattle.script_model.proofs.EventLemmas.{quiet_looks}
use Rattle.script_model.proofs.event_laws.quiet_looks_miss_nothing.Goals as goal

pub returns : goal.returns
returns c = quiet_looks
