use Rattle.script_board_tables.proofs.CanSteps.{can_step}
use Rattle.script_board_tables.proofs.laws.running_calls_can_step.Goals as goal

pub returns : goal.returns
returns c = λ t s n party r k of runs is come. can_step t s n party r of runs k is come
