use Rattle.script_model.proofs.EachLaws.{each_line_answered}
use Rattle.script_model.proofs.form_laws.each_line_has_an_answer.Goals as goal

pub returns : goal.returns
returns c = each_line_answered
