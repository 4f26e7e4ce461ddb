use Rattle.board_model.proofs.bound_laws.owed_reads_are_inside.Goals as goal
use Rattle.board_model.proofs.BoundLaws.{read_in_board}

pub returns : goal.returns
returns c = read_in_board
