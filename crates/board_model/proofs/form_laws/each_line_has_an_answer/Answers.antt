use Rattle.board_model.proofs.form_laws.each_line_has_an_answer.Goals as goal
use Rattle.board_model.proofs.FormLaws.{each_line}

pub returns : goal.returns
returns c = each_line
