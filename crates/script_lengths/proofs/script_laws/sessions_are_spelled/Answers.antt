use Rattle.script_lengths.proofs.RunLemmas.{session_spelled}
use Rattle.script_lengths.proofs.script_laws.sessions_are_spelled.Goals as goal

pub returns : goal.returns
returns c = session_spelled
