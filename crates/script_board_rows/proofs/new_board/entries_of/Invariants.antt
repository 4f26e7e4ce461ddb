use Rattle.std.proofs.Common.{◌≡◌, ◌++◌, drop, map}
use Rattle.board_model.specs.Replies.{added_of}
use Rattle.board_model.specs.Tables as tables
use Rattle.script_board_rows.proofs.new_board.entries_of.Given as goal

abbrev pub invariant-loop-i : goal.invariant-loop-i
invariant-loop-i l = l.entries.items ++ tables.entries_of (drop l.i l.cells) (map added_of (drop l.i l.added)) ≡ tables.entries_of l.cells (map added_of l.added)
