use Rattle.script_model.proofs.NewListLemmas.{new_boards}
use Rattle.script_model.proofs.line_laws.new_boards_have_one_value_each.Goals as goal

pub returns : goal.returns
returns c = new_boards
