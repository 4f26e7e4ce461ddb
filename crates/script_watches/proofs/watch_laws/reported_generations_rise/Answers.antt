use Rattle.script_watches.proofs.WatchLaws.{rise_law}
use Rattle.script_watches.proofs.watch_laws.reported_generations_rise.Goals as goal

pub returns : goal.returns
returns c = rise_law
