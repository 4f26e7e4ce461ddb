use Rattle.std.proofs.Common.{◌≡◌, drop, map}
use Rattle.board_model.specs.Replies.{added_of}
use Rattle.board_model.specs.Tables as tables
use Rattle.board_model.specs.TypeTable as types
use Rattle.script_board_rows.proofs.keys.has_key.Given as goal

abbrev pub invariant-loop-entry : goal.invariant-loop-entry
invariant-loop-entry l =
    tables.has_key (types.same_key l.key_type) (types.key_bytes l.key) (map added_of (drop l.entry-index l.entries))
    ≡ tables.has_key (types.same_key l.key_type) (types.key_bytes l.key) (map added_of l.entries)
