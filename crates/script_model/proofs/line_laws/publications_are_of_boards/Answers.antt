use Rattle.script_model.proofs.LineLaws.{publications_of_boards}
use Rattle.script_model.proofs.line_laws.publications_are_of_boards.Goals as goal

pub returns : goal.returns
returns c = publications_of_boards
