use Rattle.script_moments.proofs.NotifiedTakeLemmas.{gets_notified}
use Rattle.script_moments.proofs.take_laws.gets_after_takes_are_notified.Goals as goal

pub returns : goal.returns
returns c = gets_notified
