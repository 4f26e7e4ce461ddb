use Rattle.board_model.proofs.key_laws.lookups_take_the_first.Goals as goal
use Rattle.board_model.proofs.KeyLaws.{first_taken}

pub returns : goal.returns
returns c = first_taken
