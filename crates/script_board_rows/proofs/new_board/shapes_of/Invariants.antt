use Rattle.std.proofs.Common.{◌≡◌, ◌++◌, drop, map, All}
use Rattle.board_layout.specs.Layout.{IsShape}
use Rattle.board_model.specs.Replies.{added_of}
use Rattle.board_model.specs.Tables as tables
use Rattle.script_board_rows.proofs.new_board.shapes_of.Given as goal

abbrev pub invariant-loop-entry : goal.invariant-loop-entry
invariant-loop-entry l = l.shapes.items ++ tables.shapes_of (map added_of (drop l.entry-index l.added)) ≡ tables.shapes_of (map added_of l.added)
