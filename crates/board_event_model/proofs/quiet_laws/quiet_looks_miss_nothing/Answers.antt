use Rattle.board_event_model.proofs.SoundLemmas.{quiet_law_holds}
use Rattle.board_event_model.proofs.quiet_laws.quiet_looks_miss_nothing.Goals as goal

pub returns : goal.returns
returns c = quiet_law_holds
