use Rattle.board_index.proofs.Called.{called_same}
use Rattle.board_index.proofs.boards.make_room.Goals as goal

pub returns-clause-names : goal.returns-clause-names
returns-clause-names g c = called_same c.args.names.now c.reserve-3.new.self c.reserve-3.ensures.entries.2
