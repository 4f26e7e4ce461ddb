use Rattle.script_grammar.proofs.ScriptAnswerLemmas.{right_is_one_line}
use Rattle.script_grammar.proofs.script_line_laws.right_answers_hold_no_newline.Goals as goal

pub returns : goal.returns
returns c = right_is_one_line
