use Rattle.std.proofs.Common.{◌≡◌, drop}
use Rattle.board_model.specs.Replies.{keeps_key}
use Rattle.board_model.specs.Tables as tables
use Rattle.script_board_rows.proofs.keys.find.Given as goal

abbrev pub invariant-loop-i : goal.invariant-loop-i
invariant-loop-i l = tables.entry_from l.i (keeps_key l.key) (drop l.i l.entries) ≡ tables.entry_from 0 (keeps_key l.key) l.entries
