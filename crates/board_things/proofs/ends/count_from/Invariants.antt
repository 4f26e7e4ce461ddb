use Rattle.std.proofs.Common.{◌≡◌, ◌+◌, ◌++◌, drop, length, take}
use Rattle.board_things.specs.Nodes.{ends_from, joined}
use Rattle.board_things.proofs.ends.count_from.Given as goal

-- the ends so far and those of the rest are all ends
abbrev pub invariant-loop-i : goal.invariant-loop-i
invariant-loop-i l = record {
  all : take l.i l.ends.items ++ ends_from l.end (drop l.i l.parts) ≡ ends_from 0 l.parts;
  few : l.end + length (joined (drop l.i l.parts)) ≡ length (joined l.parts);
  each : length l.ends.items ≡ length l.parts;
}
