use Rattle.script_grammar.proofs.BoardLineLemmas.{forms_apart}
use Rattle.script_grammar.proofs.board_line_laws.forms_are_told_apart.Goals as goal

pub returns : goal.returns
returns c = forms_apart
