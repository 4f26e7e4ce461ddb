use Rattle.script_lengths.proofs.TextLemmas.{replies_short}
use Rattle.script_lengths.proofs.text_laws.replies_are_short.Goals as goal

pub returns : goal.returns
returns c = replies_short
