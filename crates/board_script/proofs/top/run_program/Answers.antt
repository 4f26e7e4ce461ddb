use Rattle.std.specs.String.{string_bytes}
use Rattle.script_endings.proofs.StatusLemmas.{no_words}
use Rattle.board_script.proofs.top.run_program.Goals as goal

pub returns-clause-ended : goal.returns-clause-ended
returns-clause-ended g c = rw c.from.ensures (record {
  ran = λ none. c.run_words.ensures.ran (no_words string_bytes c.args.words.now.items none);
  generated = c.run_words.ensures.generated;
  usage = c.run_words.ensures.usage;
  usage_note = c.run_words.ensures.usage_note;
})

pub returns-clause-reads : goal.returns-clause-reads
returns-clause-reads g c = rw c.from.ensures c.run_words.ensures.reads

pub returns-clause-before_end : goal.returns-clause-before_end
returns-clause-before_end g c = rw c.from.ensures c.run_words.ensures.before_end

pub returns-clause-writes : goal.returns-clause-writes
returns-clause-writes g c = rw c.from.ensures c.run_words.ensures.writes

pub returns-clause-written : goal.returns-clause-written
returns-clause-written g c = rw c.from.ensures c.run_words.ensures.written

pub returns-clause-complete : goal.returns-clause-complete
returns-clause-complete g c = rw c.from.ensures c.run_words.ensures.complete

pub returns-clause-silent : goal.returns-clause-silent
returns-clause-silent g c = rw c.from.ensures c.run_words.ensures.silent
