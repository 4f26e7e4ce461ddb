use Rattle.script_grammar.proofs.SessionLemmas.{one_session_of}
use Rattle.script_grammar.proofs.output_laws.inputs_have_one_session.Goals as goal

pub returns : goal.returns
returns c = one_session_of
