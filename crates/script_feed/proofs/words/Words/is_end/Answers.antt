use Rattle.script_parse.proofs.TokenLemmas.{end_given}
use Rattle.script_feed.proofs.words.Words.is_end.Goals as goal

pub returns : goal.returns
returns c = rw (← c.self.view_is) (end_given 32 c.self.inside.rest c.is_none.result c.is_none.ensures)
