use Rattle.script_model.proofs.LineLaws.{parts_join}
use Rattle.script_model.proofs.line_laws.parts_join.Goals as goal

pub returns : goal.returns
returns c = parts_join
