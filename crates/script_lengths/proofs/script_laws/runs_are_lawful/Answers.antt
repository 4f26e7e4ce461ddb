use Rattle.script_lengths.proofs.RunLemmas.{run_lawful}
use Rattle.script_lengths.proofs.script_laws.runs_are_lawful.Goals as goal

pub returns : goal.returns
returns c = run_lawful
