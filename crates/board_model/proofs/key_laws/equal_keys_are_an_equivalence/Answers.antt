use Rattle.board_model.proofs.key_laws.equal_keys_are_an_equivalence.Goals as goal
use Rattle.board_model.proofs.KeyLaws.{equivalence}

pub returns : goal.returns
returns c = equivalence
