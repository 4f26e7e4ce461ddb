use Rattle.board_snapshot.proofs.WrittenLemmas.{read_back}
use Rattle.board_snapshot.proofs.run_laws.outputs_are_read_back.Goals as goal

pub returns : goal.returns
returns c = read_back
