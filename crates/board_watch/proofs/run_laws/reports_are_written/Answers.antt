use Rattle.board_watch.proofs.SaidLemmas.{reports_written}
use Rattle.board_watch.proofs.run_laws.reports_are_written.Goals as goal

pub returns : goal.returns
returns c = reports_written
