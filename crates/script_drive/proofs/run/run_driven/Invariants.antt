use Rattle.std.proofs.Common.{◌≡◌, IsTrue}
use Rattle.std.specs.Io.KnownBytes.{IsAtEnd, prepend_known}
use Rattle.script_loop.specs.Reader.{TillEnd, source_ended, in_hand}
use Rattle.script_drive.proofs.DriveSteps.{HasRunOn}
use Rattle.script_drive.proofs.run.run_driven.Given as goal

abbrev pub invariant-loop-n : goal.invariant-loop-n
invariant-loop-n g l = record {
  on : HasRunOn g.D.Drives.drive g.D.Drives.lawful g.D.Drives.stands l.driver l.n (source_ended l.reader) (g.S.Source.left l.fn.source) (prepend_known (in_hand l.reader) (g.S.Source.left l.source)) (g.K.Sink.held l.fn.sink) (g.K.Sink.held l.sink) (g.K.Sink.never_fails_within l.fn.sink) (g.K.Sink.never_fails_within l.sink);
  one_source : IsTrue (source_ended l.reader) → IsAtEnd (g.S.Source.left l.source);
  reads : g.S.Source.faults l.source ≡ g.S.Source.faults l.fn.source;
  writes : g.K.Sink.faults l.sink ≡ g.K.Sink.faults l.fn.sink;
  unfailing : g.S.Source.never_fails l.fn.source → g.S.Source.never_fails l.source;
  before_end : g.S.Source.never_fails_before_end l.fn.source → TillEnd (source_ended l.reader) (g.S.Source.never_fails_before_end l.source);
}
