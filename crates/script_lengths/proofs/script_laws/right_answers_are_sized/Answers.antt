use Rattle.script_lengths.proofs.ScriptLengthLemmas.{right_sized}
use Rattle.script_lengths.proofs.script_laws.right_answers_are_sized.Goals as goal

pub returns : goal.returns
returns c = right_sized
