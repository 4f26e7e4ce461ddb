use Rattle.board_model.proofs.form_laws.each_script_has_a_session.Goals as goal
use Rattle.board_model.proofs.FormLaws.{each_script}

pub returns : goal.returns
returns c = each_script
