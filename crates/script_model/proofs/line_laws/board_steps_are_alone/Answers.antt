use Rattle.script_model.proofs.LineLaws.{steps_alone}
use Rattle.script_model.proofs.line_laws.board_steps_are_alone.Goals as goal

pub returns : goal.returns
returns c = steps_alone
