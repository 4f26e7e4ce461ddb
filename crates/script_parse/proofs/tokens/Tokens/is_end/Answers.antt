use Rattle.script_parse.proofs.TokenLemmas.{end_given}
use Rattle.script_parse.proofs.tokens.Tokens.is_end.Goals as goal

pub returns : goal.returns
returns c = rw (← c.self.view_is) (end_given c.self.inside.separator c.self.inside.rest c.is_none.result c.is_none.ensures)
