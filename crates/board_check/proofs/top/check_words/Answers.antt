use Rattle.std.proofs.Common.{◌≡◌, arith, refl, ap, sym, ◌∙◌, inl, inr}
use Rattle.std.specs.Prelude.{Ok, Err}
use Rattle.script_pairs.specs.declared.verdict.CheckError.{CheckError}
use Rattle.script_pairs.specs.declared.verdict.CheckError.TheVariants as error
use Rattle.script_endings.proofs.StatusLemmas.{bad_status}
use Rattle.board_check.proofs.TopLemmas.{broken_in, error_is_above, error_of, few_spent, judged, lawful_in, no_words_status, no_write_fault, run_spent, run_told, three_is_read, unjudged, verdict_is_not_four, verdict_is_not_three, write_failed}
use Rattle.board_check.proofs.top.check_words.Goals as goal

pub returns-in-Ok-clause-lawful : goal.returns-in-Ok-clause-lawful
returns-in-Ok-clause-lawful g c = λ zero. lawful_in (Ok c.in-Ok.verdict) _ _ _ _ (rw c.in-Ok.is at c.check.ensures.checks) (rw c.in-Ok.is at c.check.ensures.end) c.tell.ensures.ending zero

pub returns-in-Ok-clause-broken : goal.returns-in-Ok-clause-broken
returns-in-Ok-clause-broken g c = λ one. broken_in (Ok c.in-Ok.verdict) _ _ _ _ (rw c.in-Ok.is at c.check.ensures.checks) c.tell.ensures.ending one

pub returns-in-Ok-clause-ran : goal.returns-in-Ok-clause-ran
returns-in-Ok-clause-ran g c = λ none. record {
  answer = Ok c.in-Ok.verdict;
  checks = rw c.in-Ok.is at c.check.ensures.checks;
  end = rw c.in-Ok.is at c.check.ensures.end;
  runs = rw c.in-Ok.is at c.check.ensures.runs;
  ending = c.tell.ensures.ending;
  read = rw c.in-Ok.is at c.check.ensures.faults.once;
  write = write_failed c.in-Ok.verdict _ _ _ c.tell.ensures.ending;
  read_told = rw c.in-Ok.is at c.check.ensures.faults.told;
  write_told = c.tell.ensures.told;
  read_later = c.check.ensures.faults.later;
  write_later = c.tell.ensures.later;
}

pub returns-in-Ok-clause-runs : goal.returns-in-Ok-clause-runs
returns-in-Ok-clause-runs g c = λ none sure takes run.
    inl (c.tell.ensures.unfailing takes ∙ run_told c.in-Ok.verdict _ (rw c.in-Ok.is at c.check.ensures.runs) run)

pub returns-in-Ok-clause-usage_only : goal.returns-in-Ok-clause-usage_only
returns-in-Ok-clause-usage_only g c = λ two. absurd (no_words_status (Ok c.in-Ok.verdict) _ _ _ c.tell.ensures.ending two)

pub returns-in-Err-clause-lawful : goal.returns-in-Err-clause-lawful
returns-in-Err-clause-lawful g c = λ zero. lawful_in (Err c.in-Err.error) _ _ _ _ (rw c.in-Err.is at c.check.ensures.checks) tt (unjudged c.in-Err.error _ c.as_of_run.ensures _ _ _ refl c.end_with.ensures.is c.end_with.ensures.noted) zero

pub returns-in-Err-clause-broken : goal.returns-in-Err-clause-broken
returns-in-Err-clause-broken g c = λ one. broken_in (Err c.in-Err.error) _ _ _ _ (rw c.in-Err.is at c.check.ensures.checks) (unjudged c.in-Err.error _ c.as_of_run.ensures _ _ _ refl c.end_with.ensures.is c.end_with.ensures.noted) one

pub returns-in-Err-clause-ran : goal.returns-in-Err-clause-ran
returns-in-Err-clause-ran g c = λ none. record {
  answer = Err c.in-Err.error;
  checks = rw c.in-Err.is at c.check.ensures.checks;
  end = tt;
  runs = rw c.in-Err.is at c.check.ensures.runs;
  ending = unjudged c.in-Err.error _ c.as_of_run.ensures _ _ _ refl c.end_with.ensures.is c.end_with.ensures.noted;
  read = rw c.in-Err.is at c.check.ensures.faults.once;
  write = λ four. absurd (no_write_fault c.in-Err.error (sym (c.end_with.ensures.is ∙ error_of c.in-Err.error _ c.as_of_run.ensures) ∙ four));
  read_told = rw c.in-Err.is at c.check.ensures.faults.told;
  write_told = λ other. refl;
  read_later = c.check.ensures.faults.later;
  write_later = omega arith;
}

pub returns-in-Err-clause-runs : goal.returns-in-Err-clause-runs
returns-in-Err-clause-runs g c = λ none sure takes run.
    inr (c.end_with.ensures.is ∙ error_of c.in-Err.error _ c.as_of_run.ensures ∙ run_spent c.in-Err.error _ (rw c.in-Err.is at c.check.ensures.runs) run
    (λ (q : c.in-Err.error ≡ error.ReadFault). rw c.in-Err.is at c.check.ensures.faults.reads sure (ap (λ (e : CheckError). Err e) q)))

pub returns-in-Err-clause-usage_only : goal.returns-in-Err-clause-usage_only
returns-in-Err-clause-usage_only g c = λ two. absurd (bad_status c.as_of_run.result 2 (omega arith) (sym c.end_with.ensures.is ∙ two))

pub returns-in-Ok-clause-silent : goal.returns-in-Ok-clause-silent
returns-in-Ok-clause-silent g c = λ few. c.tell.ensures.silent (λ four. omega (arith, few, four))

pub returns-in-Ok-clause-writes : goal.returns-in-Ok-clause-writes
returns-in-Ok-clause-writes g c = λ takes four. verdict_is_not_four c.in-Ok.verdict (sym (c.tell.ensures.unfailing takes) ∙ four)

pub returns-in-Ok-clause-reads : goal.returns-in-Ok-clause-reads
returns-in-Ok-clause-reads g c = λ sure three. verdict_is_not_three c.in-Ok.verdict _ _ _ c.tell.ensures.ending three

pub returns-in-Err-clause-silent : goal.returns-in-Err-clause-silent
returns-in-Err-clause-silent g c = λ few. absurd (error_is_above c.as_of_run.result c.end_with.result c.end_with.ensures.is few)

pub returns-in-Err-clause-reads : goal.returns-in-Err-clause-reads
returns-in-Err-clause-reads g c = λ sure three.
    rw c.in-Err.is at c.check.ensures.faults.reads sure (ap (λ (e : CheckError). Err e) (three_is_read c.in-Err.error (sym (c.end_with.ensures.is ∙ error_of c.in-Err.error _ c.as_of_run.ensures) ∙ three)))

pub returns-in-Err-clause-writes : goal.returns-in-Err-clause-writes
returns-in-Err-clause-writes g c = λ takes four. absurd (no_write_fault c.in-Err.error (sym (c.end_with.ensures.is ∙ error_of c.in-Err.error _ c.as_of_run.ensures) ∙ four))

pub returns-in-Ok-clause-before_end : goal.returns-in-Ok-clause-before_end
returns-in-Ok-clause-before_end g c = λ sure three. verdict_is_not_three c.in-Ok.verdict _ _ _ c.tell.ensures.ending three

pub returns-in-Err-clause-before_end : goal.returns-in-Err-clause-before_end
returns-in-Err-clause-before_end g c = λ sure three.
    rw c.in-Err.is at c.check.ensures.faults.before_end sure (ap (λ (e : CheckError). Err e) (three_is_read c.in-Err.error (sym (c.end_with.ensures.is ∙ error_of c.in-Err.error _ c.as_of_run.ensures) ∙ three)))

pub returns-in-Ok-clause-complete : goal.returns-in-Ok-clause-complete
returns-in-Ok-clause-complete g c = λ none sure takes few. judged c.in-Ok.verdict _ (c.tell.ensures.unfailing takes)

pub returns-in-Err-clause-complete : goal.returns-in-Err-clause-complete
returns-in-Err-clause-complete g c = λ none sure takes few.
    inr (inr (c.end_with.ensures.is ∙ error_of c.in-Err.error _ c.as_of_run.ensures ∙ few_spent c.in-Err.error _ (rw c.in-Err.is at c.check.ensures.checks) few
    (λ (q : c.in-Err.error ≡ error.ReadFault). rw c.in-Err.is at c.check.ensures.faults.reads sure (ap (λ (e : CheckError). Err e) q))))
