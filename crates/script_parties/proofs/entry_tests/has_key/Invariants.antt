use Rattle.std.proofs.Common.{◌≡◌, drop}
use Rattle.board_model.specs.Tables as tables
use Rattle.board_model.specs.TypeTable as types
use Rattle.script_parties.specs.Refusals.{added}
use Rattle.script_parties.proofs.entry_tests.has_key.Given as goal

abbrev pub invariant-loop-entry : goal.invariant-loop-entry
invariant-loop-entry l =
    tables.has_key (types.same_key l.key_type) (types.key_bytes l.key) (added (drop l.entry-index l.entries))
    ≡ tables.has_key (types.same_key l.key_type) (types.key_bytes l.key) (added l.entries)
