use Rattle.std.proofs.Common.{◌≡◌, [], true}
use Rattle.std.specs.Io.KnownBytes.{IsAtEnd}
use Rattle.script_loop.specs.Reader.{TillEnd}
use Rattle.script_pairs.specs.PairLines.{has_ended, in_hand, to_come}
use Rattle.script_pairs.proofs.FedLemmas.{HasJudged}
use Rattle.script_pairs.proofs.check.check_pairs.Given as goal

abbrev pub invariant-loop-n : goal.invariant-loop-n
invariant-loop-n g l = record {
  judged : HasJudged g.T.KnowsAnswers.stands l.tables l.n (g.S.Source.left l.fn.source) (to_come l.reader (g.S.Source.left l.source));
  one_source : has_ended l.reader ≡ true → IsAtEnd (g.S.Source.left l.source);
  none : has_ended l.reader ≡ true → in_hand l.reader ≡ [];
  same : g.S.Source.faults l.source ≡ g.S.Source.faults l.fn.source;
  unfailing : g.S.Source.never_fails l.fn.source → g.S.Source.never_fails l.source;
  before_end : g.S.Source.never_fails_before_end l.fn.source → TillEnd (has_ended l.reader) (g.S.Source.never_fails_before_end l.source);
}
