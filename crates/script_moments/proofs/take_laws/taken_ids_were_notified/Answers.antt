use Rattle.script_moments.proofs.NotifiedTakeLemmas.{taken_notified}
use Rattle.script_moments.proofs.take_laws.taken_ids_were_notified.Goals as goal

pub returns : goal.returns
returns c = taken_notified
