use Rattle.std.proofs.Common.{◌≡◌, drop}
use Rattle.board_model.specs.Tables as tables
use Rattle.board_model.specs.TypeTable as types
use Rattle.script_parties.specs.Refusals.{added}
use Rattle.script_parties.proofs.entry_tests.has_equal_compared.Given as goal

abbrev pub invariant-loop-i : goal.invariant-loop-i
invariant-loop-i l =
    tables.has_equal_keys (types.same_key l.key_type) (added (drop l.i l.entries))
    ≡ tables.has_equal_keys (types.same_key l.key_type) (added l.entries)
