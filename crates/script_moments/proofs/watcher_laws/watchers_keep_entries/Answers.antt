use Rattle.script_moments.proofs.KeptEntryLemmas.{entries_kept}
use Rattle.script_moments.proofs.watcher_laws.watchers_keep_entries.Goals as goal

pub returns : goal.returns
returns c = entries_kept
