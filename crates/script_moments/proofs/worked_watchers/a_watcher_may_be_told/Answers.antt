use Rattle.std.proofs.Common.{◌≡◌, refl}
use Rattle.script_model.specs.LawsOfComposition.{state_met}
use Rattle.script_moments.specs.Moments.{moments, own}
use Rattle.script_moments.specs.OneRound.{b}
use Rattle.script_moments.specs.Watchers.{moments_of_watcher}
use Rattle.script_moments.specs.WorkedWatchers.{a_watcher, before_it, since_it}
use Rattle.script_moments.proofs.WorkedWatcher.{a_turn, an_id, lawful}
use Rattle.script_moments.proofs.worked_watchers.a_watcher_may_be_told.Goals as goal

own_is : own b (moments (state_met before_it) since_it) ≡ moments_of_watcher a_watcher
own_is = refl

pub returns-clause-watcher : goal.returns-clause-watcher
returns-clause-watcher c = record { lawful = lawful; own = own_is; asked = (an_id, tt); turns = (a_turn, tt); rest = tt }

pub returns-clause-reports : goal.returns-clause-reports
returns-clause-reports c = refl

pub returns-clause-once : goal.returns-clause-once
returns-clause-once c = refl
