use Rattle.script_grammar.proofs.SessionLemmas.{one_output}
use Rattle.script_grammar.proofs.output_laws.inputs_have_one_output.Goals as goal

pub returns : goal.returns
returns c = one_output
