use Rattle.script_endings.proofs.StatusLemmas.{not_four, not_three, run_through, went_well}
use Rattle.board_watch.proofs.TopLemmas.{no_words_status, none_lawful, run_ends, run_is, runs_through}
use Rattle.board_watch.proofs.top.watch_words.Goals as goal

pub run_driven-requires-clause-lawful : goal.run_driven-requires-clause-lawful
run_driven-requires-clause-lawful g c = none_lawful

pub returns-clause-ok : goal.returns-clause-ok
returns-clause-ok g c = λ zero. run_is c.run_driven.result _ _ _ c.run_driven.ensures.runs c.end_with.ensures.is zero

pub returns-clause-end : goal.returns-clause-end
returns-clause-end g c = λ zero. run_ends c.run_driven.result _ _ _ c.run_driven.ensures.runs c.end_with.ensures.is zero

pub returns-clause-ran : goal.returns-clause-ran
returns-clause-ran g c = λ none. record { answer = c.run_driven.result; run = c.run_driven.ensures.runs; is = c.end_with.ensures.is; note = c.end_with.ensures.noted }

pub returns-clause-complete : goal.returns-clause-complete
returns-clause-complete g c = λ none sure room takes fits.
    run_through c.run_driven.result c.end_with.result c.end_with.ensures.is (c.run_driven.ensures.complete sure room takes fits)

pub returns-clause-undisturbed : goal.returns-clause-undisturbed
returns-clause-undisturbed g c = λ none sure. runs_through c.run_driven.result _ _ _ c.run_driven.ensures.runs c.end_with.ensures.is sure

pub returns-clause-usage_only : goal.returns-clause-usage_only
returns-clause-usage_only g c = λ two. absurd (no_words_status c.run_driven.result _ _ _ c.run_driven.ensures.runs c.end_with.ensures.is two)

pub returns-clause-reads : goal.returns-clause-reads
returns-clause-reads g c = λ sure.
    not_three c.run_driven.result c.end_with.result c.end_with.ensures.is (c.run_driven.ensures.reads sure)

pub returns-clause-before_end : goal.returns-clause-before_end
returns-clause-before_end g c = λ sure.
    not_three c.run_driven.result c.end_with.result c.end_with.ensures.is (c.run_driven.ensures.before_end sure)

pub returns-clause-writes : goal.returns-clause-writes
returns-clause-writes g c = λ none room takes fits.
    not_four c.run_driven.result c.end_with.result c.end_with.ensures.is (c.run_driven.ensures.writes room takes fits)

pub returns-clause-silent : goal.returns-clause-silent
returns-clause-silent g c = λ none.
    c.end_with.ensures.silent (went_well c.run_driven.result c.end_with.result c.end_with.ensures.is none)
