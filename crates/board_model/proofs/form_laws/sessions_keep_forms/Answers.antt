use Rattle.board_model.proofs.form_laws.sessions_keep_forms.Goals as goal
use Rattle.board_model.proofs.KeptFormLemmas.{session_formed}

pub returns : goal.returns
returns c = session_formed
