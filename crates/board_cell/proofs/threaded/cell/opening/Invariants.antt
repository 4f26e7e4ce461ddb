use Rattle.std.proofs.Common.{◌≡◌, ◌++◌, replicate}
use Rattle.board_cell.proofs.threaded.cell.opening.Given as goal

abbrev pub invariant-loop : goal.invariant-loop
invariant-loop l = l.all.items ≡ l.initial.all.items ++ replicate l.counter 0
