use Rattle.board_event_model.proofs.SoundLemmas.{seen_law_holds}
use Rattle.board_event_model.proofs.quiet_laws.seen_words_are_quiet.Goals as goal

pub returns : goal.returns
returns c = seen_law_holds
