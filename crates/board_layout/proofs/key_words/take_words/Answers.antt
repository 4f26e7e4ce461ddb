use Rattle.board_layout.proofs.Bytes.{read_next, read_all}
use Rattle.board_layout.proofs.key_words.take_words.Goals as goal

pub loop-i-preserved : goal.loop-i-preserved
loop-i-preserved c = read_next _ _ _ _ _ _ _ _ _ c.loop-i-test.true c.min.ensures c.split_at.ensures.front c.split_at.ensures.back c.word_of.ensures c.loop-i.invariant

pub returns : goal.returns
returns c = read_all _ _ _ _ _ c.loop-i-test.false c.loop-i.invariant
