use Rattle.board_model.proofs.BoardLemmas.{names_of_one}
use Rattle.board_model.proofs.other_laws.names_are_of_one_board.Goals as goal

pub returns : goal.returns
returns c = names_of_one
