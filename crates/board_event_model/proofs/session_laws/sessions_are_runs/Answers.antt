use Rattle.board_event_model.proofs.ViewLemmas.{session_law_holds}
use Rattle.board_event_model.proofs.session_laws.sessions_are_runs.Goals as goal

pub returns : goal.returns
returns c = session_law_holds
