use Rattle.board_typed.proofs.Known.{held_short}
use Rattle.board_typed.proofs.laws.keys_are_short.Goals as goal

pub returns : goal.returns
returns c = held_short
