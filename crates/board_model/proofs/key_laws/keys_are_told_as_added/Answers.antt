use Rattle.board_model.proofs.key_laws.keys_are_told_as_added.Goals as goal
use Rattle.board_model.proofs.KeptKeyLemmas.{told_as_added}

pub returns : goal.returns
returns c = told_as_added
