use Rattle.board_concepts.proofs.PrefixLemmas.{prefix_free}
use Rattle.board_concepts.proofs.laws.no_spelling_begins_another.Goals as goal

pub returns : goal.returns
returns c = prefix_free
