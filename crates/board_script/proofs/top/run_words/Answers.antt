use Rattle.std.proofs.Common.{ℕ, sym, subst}
use Rattle.script_endings.proofs.StatusLemmas.{not_four, not_three, run_through, went_well}
use Rattle.script_generator.specs.Summary.{SummaryFits}
use Rattle.board_script.proofs.Words.{no_read_fault, one_number, summed, summed_up}
use Rattle.board_script.proofs.top.run_words.Goals as goal

pub returns-clause-summed : goal.returns-clause-summed
returns-clause-summed g c = λ n h zero.
    let same = one_number _ c.in-Some.n n (rw c.deref.ensures.value at c.in-Some.ensures.some) h in
    summed c.run_generated.result c.in-Some.n n c.end_with-2.result _ _ same c.run_generated.ensures.run c.end_with-2.ensures.is zero

pub returns-clause-generated : goal.returns-clause-generated
returns-clause-generated g c = λ n h.
    let same = one_number _ c.in-Some.n n (rw c.deref.ensures.value at c.in-Some.ensures.some) h in
    summed_up c.run_generated.result c.in-Some.n n c.end_with-2.result _ _ _ same c.run_generated.ensures.run c.end_with-2.ensures.is c.end_with-2.ensures.noted

pub returns-then-is_empty-clause-complete : goal.returns-then-is_empty-clause-complete
returns-then-is_empty-clause-complete g c = λ none sure room takes fits.
    run_through c.run_script.result c.end_with.result c.end_with.ensures.is (c.run_script.ensures.runs.complete sure room takes fits)

pub returns-then-is_empty-clause-reads : goal.returns-then-is_empty-clause-reads
returns-then-is_empty-clause-reads g c = λ sure.
    not_three c.run_script.result c.end_with.result c.end_with.ensures.is (c.run_script.ensures.runs.read sure)

pub returns-then-is_empty-clause-before_end : goal.returns-then-is_empty-clause-before_end
returns-then-is_empty-clause-before_end g c = λ sure.
    not_three c.run_script.result c.end_with.result c.end_with.ensures.is (c.run_script.ensures.before_end sure)

pub returns-then-is_empty-clause-writes : goal.returns-then-is_empty-clause-writes
returns-then-is_empty-clause-writes g c = λ none room takes fits.
    not_four c.run_script.result c.end_with.result c.end_with.ensures.is (c.run_script.ensures.runs.written room takes fits)

pub returns-clause-reads : goal.returns-clause-reads
returns-clause-reads g c = λ sure.
    not_three c.run_generated.result c.end_with-2.result c.end_with-2.ensures.is (no_read_fault c.run_generated.result c.in-Some.n _ _ c.run_generated.ensures.run)

pub returns-clause-before_end : goal.returns-clause-before_end
returns-clause-before_end g c = λ sure.
    not_three c.run_generated.result c.end_with-2.result c.end_with-2.ensures.is (no_read_fault c.run_generated.result c.in-Some.n _ _ c.run_generated.ensures.run)

pub returns-clause-written : goal.returns-clause-written
returns-clause-written g c = λ n h room takes fits.
    let same = one_number _ c.in-Some.n n (rw c.deref.ensures.value at c.in-Some.ensures.some) h in
    not_four c.run_generated.result c.end_with-2.result c.end_with-2.ensures.is (c.run_generated.ensures.run.written room takes (subst (λ (k : ℕ). SummaryFits room k) (sym same) fits))

pub returns-then-is_empty-clause-silent : goal.returns-then-is_empty-clause-silent
returns-then-is_empty-clause-silent g c = λ none.
    c.end_with.ensures.silent (went_well c.run_script.result c.end_with.result c.end_with.ensures.is none)

pub returns-clause-silent : goal.returns-clause-silent
returns-clause-silent g c = λ none.
    c.end_with-2.ensures.silent (went_well c.run_generated.result c.end_with-2.result c.end_with-2.ensures.is none)
