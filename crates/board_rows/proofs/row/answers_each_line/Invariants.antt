use Rattle.std.specs.Prelude.{None}
use Rattle.script_loop.specs.Machines.{HasRun}
use Rattle.board_rows.proofs.row.answers_each_line.Given as goal

abbrev pub invariant-loop-n : goal.invariant-loop-n
invariant-loop-n g l = HasRun g.M.RunsLines.stands l.machine l.n None None None None
