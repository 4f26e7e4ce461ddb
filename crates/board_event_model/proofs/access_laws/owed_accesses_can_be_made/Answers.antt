use Rattle.board_event_model.proofs.AccessLemmas.{perform_law_holds}
use Rattle.board_event_model.proofs.access_laws.owed_accesses_can_be_made.Goals as goal

pub returns : goal.returns
returns c = perform_law_holds
