use Rattle.std.proofs.Common.{rules}
use Rattle.std.proofs.lemmas.List.{take_rest}
use Rattle.script_parse.proofs.TokenLemmas.{cut_at, cut_none, eqb-self}
use Rattle.script_feed.proofs.words.cut.Goals as goal

pub returns-in-None : goal.returns-in-None
returns-in-None c = cut_none 32 c.args.text.now (search rules)

pub returns-in-Some : goal.returns-in-Some
returns-in-Some c = rw take_rest (cut_at 32 c.args.text.now c.in-Some.at (eqb-self 32) (search rules) (search rules) (search rules))
