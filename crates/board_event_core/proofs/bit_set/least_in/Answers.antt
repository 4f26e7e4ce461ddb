use Rattle.std.proofs.Common.{arith, rules}
use Rattle.board_event_core.proofs.BitLemmas.{some_least}
use Rattle.board_event_core.proofs.bit_set.least_in.Goals as goal

pub returns-then-word-ne0 : goal.returns-then-word-ne0
returns-then-word-ne0 c =
    some_least c.args.words.now c.loop-k.k c.from.result (omega arith) c.if-word-ne0.true (omega arith) c.loop-k.invariant (search rules)
