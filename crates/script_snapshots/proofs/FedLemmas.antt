-- Sessions with one pair more.
use Rattle.std.proofs.Common.{◌≡◌, [], ◌∷◌, ◌++◌}
use Rattle.script_model.specs.ScriptSession.{IsLawful, IsRight, Session, after, start}
use Rattle.script_model.specs.LawsOfComposition.{Pair, state_met}
use Rattle.script_moments.proofs.SessionLemmas.{lawful_push, state_append}

pub met_more : (fed : Session) (pair : Pair) → state_met (fed ++ pair ∷ []) ≡ after (state_met fed) pair.0 pair.1
met_more fed pair = state_append fed (pair ∷ []) start

pub fed_lawful : (fed : Session) (pair : Pair) → IsLawful fed → IsRight (state_met fed) pair.0 pair.1 → IsLawful (fed ++ pair ∷ [])
fed_lawful fed pair ok h = lawful_push fed start pair ok h
