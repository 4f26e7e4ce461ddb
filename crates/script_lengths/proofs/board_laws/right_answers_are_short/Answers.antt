use Rattle.script_lengths.proofs.SizedLemmas.{right_short}
use Rattle.script_lengths.proofs.board_laws.right_answers_are_short.Goals as goal

pub returns : goal.returns
returns c = right_short
