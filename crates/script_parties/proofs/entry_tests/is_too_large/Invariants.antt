use Rattle.std.proofs.Common.{◌≡◌, ◌+◌, ◌^◌, ◌<◌, drop}
use Rattle.board_layout.specs.Layout.{payload}
use Rattle.board_model.specs.Tables.{shapes_of}
use Rattle.script_parties.specs.Refusals.{added}
use Rattle.script_parties.proofs.entry_tests.is_too_large.Given as goal

abbrev pub invariant-loop-entry : goal.invariant-loop-entry
invariant-loop-entry l = record {
  asked : l.payload + payload (shapes_of (added (drop l.entry-index l.entries))) ≡ payload (shapes_of (added l.entries));
  small : l.payload < 2 ^ 32;
}
