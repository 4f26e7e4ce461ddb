use Rattle.std.proofs.Common.{◌≡◌, ◌++◌, drop, map}
use Rattle.board_layout.specs.Layout.{opening_words}
use Rattle.script_board_rows.specs.NewBoards.{first_values}
use Rattle.script_board_rows.proofs.new_board.words_of.Given as goal

abbrev pub invariant-loop-i : goal.invariant-loop-i
invariant-loop-i l = l.words.items ++ opening_words l.at (drop l.i l.cells) (first_values (drop l.i l.added)) ≡ opening_words 0 l.cells (first_values l.added)
