use Rattle.board_snapshot.proofs.WrittenLemmas.{fed_written}
use Rattle.board_snapshot.proofs.run_laws.fed_sessions_are_written.Goals as goal

pub returns : goal.returns
returns c = fed_written
