use Rattle.board_bench.proofs.Turns.{behind_opening}
use Rattle.board_bench.proofs.typed.run_updates.Goals as goal

pub returns-clause-values : goal.returns-clause-values
returns-clause-values g c = behind_opening _ _ _ c.in_ok-handle.ensures.opening c.updates.ensures.values
