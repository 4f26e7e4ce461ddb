use Rattle.script_model.proofs.WorkedLost.{reader_told}
use Rattle.script_model.proofs.worked_scripts.a_reader_may_be_told_by_a_lost_notifier.Goals as goal

pub returns : goal.returns
returns c = reader_told
