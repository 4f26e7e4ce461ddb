use Rattle.board_model.proofs.bound_laws.lines_keep_numbers.Goals as goal
use Rattle.board_model.proofs.NumberLemmas.{line_numbers}

pub returns : goal.returns
returns c = line_numbers
