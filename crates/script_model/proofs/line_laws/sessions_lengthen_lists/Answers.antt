use Rattle.script_model.proofs.LineLaws.{sessions_lengthen}
use Rattle.script_model.proofs.line_laws.sessions_lengthen_lists.Goals as goal

pub returns : goal.returns
returns c = sessions_lengthen
