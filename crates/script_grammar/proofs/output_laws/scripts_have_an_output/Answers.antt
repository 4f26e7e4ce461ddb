use Rattle.script_grammar.proofs.SessionLemmas.{each_output}
use Rattle.script_grammar.proofs.output_laws.scripts_have_an_output.Goals as goal

pub returns : goal.returns
returns c = each_output
