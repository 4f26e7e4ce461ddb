use Rattle.std.proofs.Common.{◌≡◌, ◌++◌}
use Rattle.script_machine.specs.Counters.{EntryStands}
use Rattle.script_generator.specs.Counting.{HasCounted}
use Rattle.script_generator.specs.Generator.{drawn, number_drawn, opening}
use Rattle.script_generator.proofs.generator.summary_of.Given as goal

abbrev pub invariant-loop-k : goal.invariant-loop-k
invariant-loop-k l = record {
  run : HasCounted l.generator (opening ++ drawn l.n l.k);
  number : l.number ≡ number_drawn l.n l.k;
  first : EntryStands l.generator.machine 1 0;
  second : EntryStands l.generator.machine 1 1;
}
