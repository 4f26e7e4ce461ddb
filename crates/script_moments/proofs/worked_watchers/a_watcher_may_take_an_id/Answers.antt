use Rattle.std.proofs.Common.{refl, [], ◌∷◌, ◌++◌}
use Rattle.script_moments.specs.Moments.{next_moment}
use Rattle.script_moments.specs.WorkedWatchers.{before_it, id_popped, none_popped, to_wait, wait_begins}
use Rattle.script_moments.proofs.WorkedWatcher.{a_get, answered}
use Rattle.script_moments.proofs.worked_watchers.a_watcher_may_take_an_id.Goals as goal

pub returns-clause-take : goal.returns-clause-take
returns-clause-take c = answered

pub returns-clause-taken : goal.returns-clause-taken
returns-clause-taken c = record {
  turns = refl;
  pre = to_wait ++ wait_begins ∷ [];
  upto = refl;
  whole = refl;
  names_it = refl;
  done = next_moment before_it to_wait wait_begins ∷ [];
  still = next_moment before_it (to_wait ++ wait_begins ∷ id_popped ∷ []) none_popped ∷ [];
  wait = refl;
  own = refl;
}

pub returns-clause-got : goal.returns-clause-got
returns-clause-got c = record { ones = []; others = []; gets = refl; is = a_get }

pub returns-clause-entry : goal.returns-clause-entry
returns-clause-entry c = record { board = refl; entry = refl }
