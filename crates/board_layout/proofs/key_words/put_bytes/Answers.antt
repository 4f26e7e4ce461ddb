use Rattle.std.proofs.Common.{◌≢◌, ◌<◌, length, arith, below_more, get_or-set_other, get_or-set_same}
use Rattle.std.proofs.lemmas.Grind.{common_steps}
use Rattle.board_layout.proofs.key_words.put_bytes.Goals as goal

pub loop-i-preserved : goal.loop-i-preserved
loop-i-preserved g c = (
  grind (arith, common_steps),
  record {
    front = below_more _ _
        (λ k h. let ne : k ≢ c.loop-i.i = omega arith in rw get_or-set_other (c.loop-i.invariant.1.front k h))
        (let lt : c.loop-i.i < length c.loop-i.bytes = omega (arith, c.requires.fits, c.loop-i.invariant.0) in rw get_or-set_same c.byte_at.ensures);
    behind = λ k h. let ne : k ≢ c.loop-i.i = omega arith in rw get_or-set_other (c.loop-i.invariant.1.behind k (omega arith));
  },
)
