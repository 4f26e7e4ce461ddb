use Rattle.script_model.proofs.CompositionLemmas.{notified_gets_fresh}
use Rattle.script_model.proofs.composition_laws.notified_gets_are_fresh.Goals as goal

pub returns : goal.returns
returns c = notified_gets_fresh
