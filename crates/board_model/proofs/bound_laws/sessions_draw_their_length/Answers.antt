use Rattle.board_model.proofs.bound_laws.sessions_draw_their_length.Goals as goal
use Rattle.board_model.proofs.DrawLemmas.{session_within}

pub returns : goal.returns
returns c = session_within
