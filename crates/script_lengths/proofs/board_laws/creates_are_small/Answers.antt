use Rattle.script_lengths.proofs.BoardSizeLemmas.{creates_small}
use Rattle.script_lengths.proofs.board_laws.creates_are_small.Goals as goal

pub returns : goal.returns
returns c = creates_small
