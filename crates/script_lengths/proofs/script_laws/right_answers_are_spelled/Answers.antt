use Rattle.script_lengths.proofs.ScriptLengthLemmas.{right_spelled}
use Rattle.script_lengths.proofs.script_laws.right_answers_are_spelled.Goals as goal

pub returns : goal.returns
returns c = right_spelled
