use Rattle.std.proofs.Common.{◌≡◌, ◌+◌, length}
use Rattle.board_cell.specs.Passes.{NotesRise}
use Rattle.board_bench.specs.Handles.{ReadsOn}
use Rattle.board_bench.proofs.typed.gets.Given as goal

abbrev pub invariant-loop : goal.invariant-loop
invariant-loop g l = record {
  kept : l.handle ≡ record l.initial.handle { pass = l.handle.pass };
  count : length l.handle.pass.notes ≡ length l.initial.handle.pass.notes + l.counter;
  values : ReadsOn g.V.ZeroCopySend.value_of l.fn.first l.latest l.initial.handle.pass.notes l.handle.pass.notes;
  rises : NotesRise l.initial.handle.pass.notes → NotesRise l.handle.pass.notes;
}
