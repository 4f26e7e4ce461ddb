use Rattle.std.proofs.Common.{◌≡◌, take, length}
use Rattle.board_cell.specs.Views.{reader_of, with_words}
use Rattle.board_cell.specs.declared.threaded.view.View.TheVariants.{Reader}
use Rattle.board_cell.proofs.threaded.cell.ThreadedCell.load_words.Given as goal

-- the words found so far are the first ones of the slice
abbrev pub invariant-loop-i : goal.invariant-loop-i
invariant-loop-i l = (l.seat.table_id ≡ l.fn.seat.table_id) × (l.seat.me ≡ (Reader (with_words (reader_of l.fn.seat.me.0) (take l.i l.words)), l.fn.seat.me.1)) × (length l.words ≡ length l.fn.words)
