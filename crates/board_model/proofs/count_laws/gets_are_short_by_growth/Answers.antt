use Rattle.board_model.proofs.SlowLemmas.{short_by_growth}
use Rattle.board_model.proofs.count_laws.gets_are_short_by_growth.Goals as goal

pub returns : goal.returns
returns c = short_by_growth
