use Rattle.script_lengths.proofs.BoardSizeLemmas.{session_small}
use Rattle.script_lengths.proofs.board_laws.boards_stay_small.Goals as goal

pub returns : goal.returns
returns c = session_small
