use Rattle.board_model.proofs.CounterLemmas.{first_stays}
use Rattle.board_model.proofs.count_laws.first_counters_stay.Goals as goal

pub returns : goal.returns
returns c = first_stays
