use Rattle.board_model.proofs.count_laws.passed_writes_are_printed.Goals as goal
use Rattle.board_model.proofs.PassLemmas.{passed}

pub returns : goal.returns
returns c = passed
