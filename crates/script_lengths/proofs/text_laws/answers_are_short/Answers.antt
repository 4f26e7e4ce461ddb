use Rattle.script_lengths.proofs.TextLemmas.{answers_short}
use Rattle.script_lengths.proofs.text_laws.answers_are_short.Goals as goal

pub returns : goal.returns
returns c = answers_short
