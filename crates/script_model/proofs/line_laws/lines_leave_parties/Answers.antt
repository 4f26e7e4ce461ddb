use Rattle.script_model.proofs.LineLaws.{lines_leave}
use Rattle.script_model.proofs.line_laws.lines_leave_parties.Goals as goal

pub returns : goal.returns
returns c = lines_leave
