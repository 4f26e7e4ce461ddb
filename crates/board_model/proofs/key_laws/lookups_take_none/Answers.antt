use Rattle.board_model.proofs.KeyLaws.{none_taken}
use Rattle.board_model.proofs.key_laws.lookups_take_none.Goals as goal

pub returns : goal.returns
returns c = none_taken
