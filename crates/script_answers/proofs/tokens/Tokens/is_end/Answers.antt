use Rattle.std.proofs.Common.{arith}
use Rattle.script_answers.proofs.CountLemmas.{end_given}
use Rattle.script_answers.proofs.tokens.Tokens.is_end.Goals as goal

pub returns-else-self-eq0 : goal.returns-else-self-eq0
returns-else-self-eq0 c = rw (← c.self.view_is) (end_given c.self.inside.separator c.self.inside.most c.self.inside.rest c.is_none.result (omega arith) c.is_none.ensures)
