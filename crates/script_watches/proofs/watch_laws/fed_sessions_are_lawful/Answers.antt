use Rattle.script_watches.proofs.WatchLaws.{fed_lawful_law}
use Rattle.script_watches.proofs.watch_laws.fed_sessions_are_lawful.Goals as goal

pub returns : goal.returns
returns c = fed_lawful_law
