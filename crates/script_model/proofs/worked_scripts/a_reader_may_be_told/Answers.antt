use Rattle.script_model.proofs.WorkedScript.{reader_told}
use Rattle.script_model.proofs.worked_scripts.a_reader_may_be_told.Goals as goal

pub returns : goal.returns
returns c = reader_told
