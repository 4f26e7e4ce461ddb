use Rattle.board_model.proofs.OtherLemmas.{line_left}
use Rattle.board_model.proofs.other_laws.lines_leave_others.Goals as goal

pub returns : goal.returns
returns c = line_left
