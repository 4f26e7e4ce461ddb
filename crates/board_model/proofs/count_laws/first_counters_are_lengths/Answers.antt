use Rattle.board_model.proofs.SlowLemmas.{first_counters}
use Rattle.board_model.proofs.count_laws.first_counters_are_lengths.Goals as goal

pub returns : goal.returns
returns c = first_counters
