use Rattle.script_moments.proofs.TurnLemmas.{begun_or_refused}
use Rattle.script_moments.proofs.turn_laws.calls_are_begun_or_refused.Goals as goal

pub returns : goal.returns
returns c = begun_or_refused
