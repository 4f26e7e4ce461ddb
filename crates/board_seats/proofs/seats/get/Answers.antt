use Rattle.board_service.proofs.CellLemmas.{same_cells}
use Rattle.board_seats.proofs.seats.get.Goals as goal

pub returns-in-Some-clause-same : goal.returns-in-Some-clause-same
returns-in-Some-clause-same g c = same_cells c.args.domain.now c.board_of-board.result c.get_in.new.words c.in-Some.words.now c.in-Some.ensures.value c.get_in.ensures.same
