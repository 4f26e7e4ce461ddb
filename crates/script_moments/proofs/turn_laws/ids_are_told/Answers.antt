use Rattle.script_moments.proofs.TurnLemmas.{ids_told}
use Rattle.script_moments.proofs.turn_laws.ids_are_told.Goals as goal

pub returns : goal.returns
returns c = ids_told
