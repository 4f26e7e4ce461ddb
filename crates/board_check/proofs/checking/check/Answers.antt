use Rattle.board_check.proofs.Accepted.{runs_accepted}
use Rattle.board_check.proofs.checking.check.Goals as goal

pub returns-clause-runs : goal.returns-clause-runs
returns-clause-runs g c = runs_accepted _ _ c.check_pairs.ensures.checks
