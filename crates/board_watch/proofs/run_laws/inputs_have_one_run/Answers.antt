use Rattle.board_watch.proofs.OneRunLemmas.{one_run_of}
use Rattle.board_watch.proofs.run_laws.inputs_have_one_run.Goals as goal

pub returns : goal.returns
returns c = one_run_of
