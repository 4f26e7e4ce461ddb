use Rattle.script_model.proofs.LineLaws.{pairs_of_boards}
use Rattle.script_model.proofs.line_laws.pairs_are_of_boards.Goals as goal

pub returns : goal.returns
returns c = pairs_of_boards
