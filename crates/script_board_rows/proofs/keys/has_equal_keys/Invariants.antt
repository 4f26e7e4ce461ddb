use Rattle.std.proofs.Common.{◌≡◌, drop, map}
use Rattle.board_model.specs.Replies.{added_of}
use Rattle.board_model.specs.Tables as tables
use Rattle.board_model.specs.TypeTable as types
use Rattle.script_board_rows.proofs.keys.has_equal_keys.Given as goal

abbrev pub invariant-loop-i : goal.invariant-loop-i
invariant-loop-i l =
    tables.has_equal_keys (types.same_key l.key_type) (map added_of (drop l.i l.entries))
    ≡ tables.has_equal_keys (types.same_key l.key_type) (map added_of l.entries)
