use Rattle.script_lengths.proofs.ShortLemmas.{short_fits}
use Rattle.script_lengths.proofs.text_laws.answers_without_lists_are_short.Goals as goal

pub returns : goal.returns
returns c = short_fits
