use Rattle.board_layout.proofs.Bytes.{read_eight}
use Rattle.board_layout.proofs.key_words.word_of.Goals as goal

pub returns-in-len8 : goal.returns-in-len8
returns-in-len8 c = read_eight c.args.bytes.now c.from_le_bytes.result c.in-len8.len_at_least c.in-len8.len_below c.from_le_bytes.ensures
