use Rattle.std.proofs.Common.{rules}
use Rattle.board_cell.proofs.Mirroring.{loads}
use Rattle.board_cell.proofs.seat_words.SeatWordsWords.load.Goals as goal

pub load-requires : goal.load-requires
load-requires c = (search rules, search rules, loads _ _ _ _)
