use Rattle.script_written.proofs.GivenLemmas.{all_found}
use Rattle.script_written.proofs.written_laws.fed_sessions_are_found.Goals as goal

pub returns : goal.returns
returns c = all_found
