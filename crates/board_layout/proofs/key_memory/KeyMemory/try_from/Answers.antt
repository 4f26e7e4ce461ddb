use Rattle.std.proofs.Common.{ap, ◌∙◌, arith}
use Rattle.board_layout.proofs.KeyLemmas.{words_in-key}
use Rattle.board_layout.proofs.key_memory.KeyMemory.try_from.Goals as goal

pub whole_as_front-front : goal.whole_as_front-front
whole_as_front-front g c = (
  omega (arith, g.met.T.ZeroCopySend.counted.least, c.WORDS.ensures, c.SIZE.ensures, c.in_ok-fits.ensures.ok),
  omega (arith, c.requires),
)

pub returns-clause-reads_back : goal.returns-clause-reads_back
returns-clause-reads_back g c =
    let valid = c.to_words.ensures.valid in
    let begins = rw (c.to_words.ensures.words, c.SIZE-2.ensures) at c.put_bytes.ensures in
    ap g.T.ZeroCopySend.value_of (words_in-key _ _ _ _ (g.met.T.ZeroCopySend.filled c.args.value.now valid) begins)
    ∙ g.met.T.ZeroCopySend.undoes c.args.value.now valid
