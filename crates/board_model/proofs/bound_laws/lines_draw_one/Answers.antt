use Rattle.board_model.proofs.bound_laws.lines_draw_one.Goals as goal
use Rattle.board_model.proofs.DrawLemmas.{line_within}

pub returns : goal.returns
returns c = line_within
