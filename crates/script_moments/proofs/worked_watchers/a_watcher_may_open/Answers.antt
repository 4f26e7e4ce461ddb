use Rattle.std.proofs.Common.{refl, [], ◌∷◌, ◌++◌}
use Rattle.script_model.specs.ScriptSession.{IsLawful, start}
use Rattle.script_model.proofs.CompositionLemmas.{lawful_split}
use Rattle.script_moments.specs.WorkedWatchers.{before_it, behind_it, id_begins, id_popped, id_pushed, id_told, notify_begun, update_begun, update_ended, wait_begins}
use Rattle.script_moments.proofs.WorkedWatcher.{an_id, lawful}
use Rattle.script_moments.proofs.worked_watchers.a_watcher_may_open.Goals as goal

-- it is the first part of the whole session
opened : IsLawful (before_it ++ id_begins ∷ id_told ∷ [])
opened = (lawful_split (before_it ++ id_begins ∷ id_told ∷ []) (update_begun ++ update_ended ∷ notify_begun ∷ id_pushed ∷ wait_begins ∷ id_popped ∷ behind_it) start lawful).0

pub returns : goal.returns
returns c = record { lawful = opened; own = refl; asked = (an_id, tt) }
