use Rattle.script_moments.proofs.WaitLemmas.{events_begun_or_refused}
use Rattle.script_moments.proofs.turn_laws.event_calls_are_begun_or_refused.Goals as goal

pub returns : goal.returns
returns c = events_begun_or_refused
