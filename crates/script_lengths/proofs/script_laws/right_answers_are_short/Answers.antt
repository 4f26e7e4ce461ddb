use Rattle.script_lengths.proofs.ScriptLengthLemmas.{right_short}
use Rattle.script_lengths.proofs.script_laws.right_answers_are_short.Goals as goal

pub returns : goal.returns
returns c = right_short
