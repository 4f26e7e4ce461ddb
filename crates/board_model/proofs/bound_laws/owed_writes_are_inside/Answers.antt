use Rattle.board_model.proofs.bound_laws.owed_writes_are_inside.Goals as goal
use Rattle.board_model.proofs.BoundLaws.{write_in_board}

pub returns : goal.returns
returns c = write_in_board
