use Rattle.script_grammar.proofs.ScriptLineLemmas.{one_line}
use Rattle.script_grammar.proofs.script_line_laws.lines_are_told_apart.Goals as goal

pub returns : goal.returns
returns c = one_line
