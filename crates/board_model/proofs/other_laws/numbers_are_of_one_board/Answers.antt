use Rattle.board_model.proofs.BoardLemmas.{numbers_of_one}
use Rattle.board_model.proofs.other_laws.numbers_are_of_one_board.Goals as goal

pub returns : goal.returns
returns c = numbers_of_one
