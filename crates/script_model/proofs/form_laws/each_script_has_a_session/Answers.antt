use Rattle.script_model.proofs.EachLaws.{each_script_run}
use Rattle.script_model.proofs.form_laws.each_script_has_a_session.Goals as goal

pub returns : goal.returns
returns c = each_script_run
