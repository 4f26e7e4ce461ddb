use Rattle.board_watch.proofs.WrittenLemmas.{fed_written}
use Rattle.board_watch.proofs.run_laws.fed_sessions_are_written.Goals as goal

pub returns : goal.returns
returns c = fed_written
