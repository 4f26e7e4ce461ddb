use Rattle.std.proofs.Common.{◌≡◌, ◌++◌, take, drop}
use Rattle.board_model.specs.TypeTable as types
use Rattle.board_model.proofs.type_table.up_to_zero.Given as goal

abbrev pub invariant-loop-i : goal.invariant-loop-i
invariant-loop-i l = take l.i l.bytes ++ types.up_to_zero (drop l.i l.bytes) ≡ types.up_to_zero l.bytes
