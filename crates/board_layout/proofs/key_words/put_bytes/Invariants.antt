use Rattle.std.proofs.Common.{◌≡◌, length}
use Rattle.board_layout.specs.Bytes.{BeginsWithBytes}
use Rattle.board_layout.proofs.key_words.put_bytes.Given as goal

abbrev pub invariant-loop-i : goal.invariant-loop-i
invariant-loop-i g l = (length l.bytes ≡ g.row.CAPACITY) × BeginsWithBytes l.bytes l.words l.i
