use Rattle.script_model.proofs.LineLaws.{lines_lengthen}
use Rattle.script_model.proofs.line_laws.lines_lengthen_lists.Goals as goal

pub returns : goal.returns
returns c = lines_lengthen
