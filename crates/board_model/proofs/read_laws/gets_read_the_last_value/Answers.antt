use Rattle.board_model.proofs.read_laws.gets_read_the_last_value.Goals as goal
use Rattle.board_model.proofs.ReadLaws.{last_value}

pub returns : goal.returns
returns c = last_value
