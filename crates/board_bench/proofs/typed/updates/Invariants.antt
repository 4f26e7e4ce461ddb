use Rattle.std.proofs.Common.{◌≡◌, ◌+◌, ◌++◌, length}
use Rattle.board_bench.specs.Watchers.{in_turn}
use Rattle.board_bench.proofs.typed.updates.Given as goal

abbrev pub invariant-loop-i : goal.invariant-loop-i
invariant-loop-i g l = record {
  found : l.handle.found ≡ l.initial.handle.found;
  cell : l.handle.held.cell ≡ l.initial.handle.held.cell;
  one : l.one ≡ l.fn.one;
  two : l.two ≡ l.fn.two;
  count : length l.handle.held.published ≡ length l.initial.handle.held.published + l.i;
  values : l.handle.held.published ≡ l.initial.handle.held.published ++ in_turn (g.V.ZeroCopySend.words_of l.fn.one) (g.V.ZeroCopySend.words_of l.fn.two) l.i;
}
