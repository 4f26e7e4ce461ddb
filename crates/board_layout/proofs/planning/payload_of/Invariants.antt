use Rattle.std.proofs.Common.{◌≡◌, ◌+◌, ◌^◌, ◌<◌, drop}
use Rattle.board_layout.specs.Layout.{payload}
use Rattle.board_layout.proofs.planning.payload_of.Given as goal

abbrev pub invariant-loop-shape : goal.invariant-loop-shape
invariant-loop-shape l = record {
  asked : l.payload + payload (drop l.shape-index l.shapes) ≡ payload l.shapes;
  small : l.payload < 2 ^ 32;
}
