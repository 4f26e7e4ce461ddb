use Rattle.std.specs.String.{string_bytes}
use Rattle.script_endings.proofs.StatusLemmas.{no_words}
use Rattle.board_snapshot.proofs.TopLemmas.{some_words}
use Rattle.board_snapshot.proofs.top.run_program.Goals as goal

pub returns-clause-ended : goal.returns-clause-ended
returns-clause-ended g c = rw c.from.ensures (record {
  ran = λ none. c.snapshot_words.ensures.ran (no_words string_bytes c.args.words.now.items none);
  ok = c.snapshot_words.ensures.ok;
  end = c.snapshot_words.ensures.end;
  usage = λ some. c.snapshot_words.ensures.usage (some_words string_bytes c.args.words.now.items some);
  usage_note = λ some. c.snapshot_words.ensures.usage_note (some_words string_bytes c.args.words.now.items some);
})

pub returns-clause-complete : goal.returns-clause-complete
returns-clause-complete g c = rw c.from.ensures (λ none sure room takes fits. c.snapshot_words.ensures.complete none sure room takes fits)

pub returns-clause-reads : goal.returns-clause-reads
returns-clause-reads g c = rw c.from.ensures c.snapshot_words.ensures.reads

pub returns-clause-before_end : goal.returns-clause-before_end
returns-clause-before_end g c = rw c.from.ensures c.snapshot_words.ensures.before_end

pub returns-clause-writes : goal.returns-clause-writes
returns-clause-writes g c = rw c.from.ensures c.snapshot_words.ensures.writes

pub returns-clause-silent : goal.returns-clause-silent
returns-clause-silent g c = rw c.from.ensures c.snapshot_words.ensures.silent
