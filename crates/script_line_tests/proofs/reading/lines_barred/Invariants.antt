use Rattle.std.proofs.Common.{IsTrue}
use Rattle.std.specs.Io.KnownBytes.{IsAtEnd}
use Rattle.script_loop.specs.Memory.{source_left}
use Rattle.script_loop.specs.Reader.{source_ended}
use Rattle.script_line_tests.proofs.reading.lines_barred.Given as goal

abbrev pub invariant-loop : goal.invariant-loop
invariant-loop l = IsTrue (source_ended l.reader) → IsAtEnd (source_left l.source)
