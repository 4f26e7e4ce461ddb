use Rattle.std.proofs.Common.{arith}
use Rattle.script_parse.proofs.TokenLemmas.{front_lacks}
use Rattle.script_parse.proofs.bytes.place_of.Goals as goal

pub returns-then-b-wanted-clause-first : goal.returns-then-b-wanted-clause-first
returns-then-b-wanted-clause-first c = front_lacks c.args.wanted c.args.bytes.now c.loop-i.i c.loop-i.invariant (omega arith)
