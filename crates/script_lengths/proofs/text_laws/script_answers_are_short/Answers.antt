use Rattle.script_lengths.proofs.ScriptTextLemmas.{script_answers_short}
use Rattle.script_lengths.proofs.text_laws.script_answers_are_short.Goals as goal

pub returns : goal.returns
returns c = script_answers_short
