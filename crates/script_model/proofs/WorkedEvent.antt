-- Sessions of events that are not lawful.
use Rattle.script_model.specs.ScriptSession.{IsLawful}
use Rattle.script_model.specs.WorkedEvents.{a_name_given_twice, an_early_expire, the_newest_id_first}
use Rattle.script_model.proofs.RuleLemmas.{ruled}

pub expire_wrong : IsLawful an_early_expire → ⊥
expire_wrong h = let e = ruled _ _ _ h.1.1.1.1.1.0 in cc

pub name_wrong : IsLawful a_name_given_twice → ⊥
name_wrong h = let e = ruled _ _ _ h.1.1.1.1.1.0 in cc

pub newest_wrong : IsLawful the_newest_id_first → ⊥
newest_wrong h =
    let k = ruled _ _ _ h.1.1.1.1.1.1.1.1.1.0 in
    let e = k.printed in
    let r = k.right in
    cc
