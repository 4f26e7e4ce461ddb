use Rattle.std.proofs.Common.{◌≡◌, ◌≤◌, ◌-◌, length, take}
use Rattle.board_cell.specs.Views.{writer_of}
use Rattle.board_cell.specs.declared.threaded.view.View.TheVariants.{Writer}
use Rattle.board_cell.proofs.threaded.cell.ThreadedCell.run_update.Given as goal

abbrev pub decreases-words : goal.decreases-words
decreases-words l = length l.call.words - l.call.written

-- the words written so far are pending
abbrev pub invariant-words : goal.invariant-words
invariant-words l = (l.seat.table_id ≡ l.initial.seat.table_id) × (l.seat.me ≡ (Writer record (writer_of l.initial.seat.me.0) { pending = take l.call.written l.initial.call.words }, l.initial.seat.me.1)) × (l.call ≡ record l.initial.call { written = l.call.written }) × (l.call.written ≤ length l.initial.call.words)
