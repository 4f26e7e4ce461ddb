use Rattle.board_cell.proofs.WholeLemmas.{one_value, others_keep}
use Rattle.board_cell.proofs.laws.a_cell_has_one_value.Goals as goal

pub returns-clause-one : goal.returns-clause-one
returns-clause-one c = one_value

pub returns-clause-others : goal.returns-clause-others
returns-clause-others c = others_keep
