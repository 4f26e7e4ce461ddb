use Rattle.board_model.proofs.read_laws.replies_are_read.Goals as goal
use Rattle.board_model.proofs.ReadLaws.{told_is_read}

pub returns : goal.returns
returns c = told_is_read
