use Rattle.script_grammar.proofs.BoardLineLemmas.{one_board_line}
use Rattle.script_grammar.proofs.board_line_laws.lines_are_told_apart.Goals as goal

pub returns : goal.returns
returns c = one_board_line
