use Rattle.script_lengths.proofs.SizedLemmas.{right_sized}
use Rattle.script_lengths.proofs.board_laws.right_answers_are_sized.Goals as goal

pub returns : goal.returns
returns c = right_sized
