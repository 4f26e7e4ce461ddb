use Rattle.board_model.proofs.BoardLemmas.{never_again}
use Rattle.board_model.proofs.other_laws.numbers_are_never_used_again.Goals as goal

pub returns : goal.returns
returns c = never_again
