use Rattle.script_grammar.proofs.BoardAnswerLemmas.{answer_free}
use Rattle.script_grammar.proofs.board_line_laws.answers_hold_no_newline.Goals as goal

pub returns : goal.returns
returns c = answer_free
