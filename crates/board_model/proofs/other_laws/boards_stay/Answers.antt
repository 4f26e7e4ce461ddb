use Rattle.board_model.proofs.BoardLemmas.{boards_stay}
use Rattle.board_model.proofs.other_laws.boards_stay.Goals as goal

pub returns : goal.returns
returns c = boards_stay
