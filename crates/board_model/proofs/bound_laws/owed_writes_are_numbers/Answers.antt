use Rattle.board_model.proofs.bound_laws.owed_writes_are_numbers.Goals as goal
use Rattle.board_model.proofs.NumberLemmas.{owed_numbers}

pub returns : goal.returns
returns c = owed_numbers
