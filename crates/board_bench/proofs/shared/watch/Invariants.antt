use Rattle.board_bench.specs.Watchers.{IsOf}
use Rattle.board_bench.proofs.shared.watch.Given as goal

abbrev pub invariant-gets : goal.invariant-gets
invariant-gets g l = IsOf l.fn.cell l.watcher
