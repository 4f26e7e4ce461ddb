use Rattle.std.proofs.Common.{length}
use Rattle.board_layout.proofs.Bytes.{IsRead}
use Rattle.board_layout.proofs.key_words.take_words.Given as goal

abbrev pub invariant-loop-i : goal.invariant-loop-i
invariant-loop-i l = IsRead l.words l.i (length l.initial.words) l.rest l.bytes
