use Rattle.std.proofs.Common.{arith}
use Rattle.board_event.proofs.WordLemmas.{CallsOn-bit}
use Rattle.board_event.proofs.accesses.hand_over_bits.Goals as goal

pub loop-bit-preserved : goal.loop-bit-preserved
loop-bit-preserved g c = (
  c.hand_over_bit.ensures.callable,
  λ last fits folds. c.loop-bit.invariant.1 last fits
      (CallsOn-bit (goal.F-step g) c.loop-bit.callback c.hand_over_bit.new.callback last c.args.base c.args.bits c.loop-bit.bit c.args.count (omega arith) fits
      c.hand_over_bit.ensures.called c.hand_over_bit.ensures.left folds),
)
