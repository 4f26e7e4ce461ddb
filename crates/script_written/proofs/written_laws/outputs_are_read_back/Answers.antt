use Rattle.script_written.proofs.GivenLemmas.{all_read}
use Rattle.script_written.proofs.written_laws.outputs_are_read_back.Goals as goal

pub returns : goal.returns
returns c = all_read
