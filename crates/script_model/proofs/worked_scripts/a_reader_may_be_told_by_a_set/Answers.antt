use Rattle.script_model.proofs.WorkedSet.{reader_told}
use Rattle.script_model.proofs.worked_scripts.a_reader_may_be_told_by_a_set.Goals as goal

pub returns : goal.returns
returns c = reader_told
