use Rattle.board_event.proofs.WordLemmas.{CallsOn-word}
use Rattle.board_event.proofs.accesses.hand_over.Goals as goal

pub returns-in-Took-clause-calls : goal.returns-in-Took-clause-calls
returns-in-Took-clause-calls g c = CallsOn-word (goal.F-step g) c.args.callback.now c.hand_over_bits.new.callback c.in-Took.base c.in-Took.bits c.bits_of_word-count.result c.in-Took.last c.args.progress c.in-Took.is c.bits_of_word-count.ensures c.hand_over_bits.ensures.calls
