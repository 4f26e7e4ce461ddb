use Rattle.script_model.proofs.EventPartLemmas.{events_law_holds}
use Rattle.script_model.proofs.part_laws.events_are_runs.Goals as goal

pub returns : goal.returns
returns c = events_law_holds
