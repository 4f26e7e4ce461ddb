use Rattle.std.proofs.Common.{◌≡◌, ℕ, ◌∙◌, arith, refl, rules, subst}
use Rattle.script_loop.specs.Machines.{SpellsNone}
use Rattle.script_pairs.specs.Checks.{AreLawfulIn}
use Rattle.script_pairs.proofs.EndLemmas.{told_ok, told_past}
use Rattle.script_pairs.proofs.FedLemmas.{begins, cut_line, goes_on, is_broken, is_lawful, is_long, is_no_line, is_past, is_unanswered, stands_for}
use Rattle.script_pairs.proofs.check.check_pairs.Goals as goal

pub loop-n-init : goal.loop-n-init
loop-n-init g c = record {
  judged = begins _ _ _ _ c.in_ok-reader.ensures.hand c.requires.tables;
  one_source = search rules;
  none = λ e. c.in_ok-reader.ensures.hand;
  same = refl;
  unfailing = λ h. h;
  before_end = λ h e. h;
}

pub returns-in-End-clause-checks : goal.returns-in-End-clause-checks
returns-in-End-clause-checks g c =
    let f = rw c.in-End.is at c.in_ok-next.ensures.found in
    told_ok _ _ _ (omega arith, is_lawful _ _ _ _ _ c.loop-n.invariant.judged f)

pub returns-in-Long-clause-checks : goal.returns-in-Long-clause-checks
returns-in-Long-clause-checks g c =
    let f = rw c.in-Long.is at c.in_ok-next.ensures.found in
    told_ok _ _ _ (omega arith, is_long _ _ _ _ _ c.loop-n.invariant.judged f)

pub returns-in_default-clause-checks : goal.returns-in_default-clause-checks
returns-in_default-clause-checks g c =
    let f = rw c.in-Line.is at c.in_ok-next.ensures.found in
    let none : SpellsNone c.deref.result.now = rw c.in_default.is at c.in_ok-asked.ensures.only in
    told_ok _ _ _ (omega arith, is_no_line _ _ _ _ _ c.loop-n.invariant.judged _ _ f.0 (subst SpellsNone c.deref.ensures.value none))

pub returns-then-not-is_line-clause-checks : goal.returns-then-not-is_line-clause-checks
returns-then-not-is_line-clause-checks g c =
    let f = rw c.in-Line.is at c.in_ok-next.ensures.found in
    let read = rw c.in-Some.is at c.in_ok-asked.ensures.found in
    let spelled = rw c.deref.ensures.value at read in
    told_ok _ _ _ (
      omega arith,
      is_unanswered _ _ _ _ _ _ _ c.loop-n.invariant.judged f.0 c.in-Some.asked spelled c.in_ok-found.found c.most_bytes.result _ c.next-in-loop-n.new.line.items c.most_bytes.ensures c.in_ok-found.ensures.found (c.if-not-is_line.ensures.other refl),
    )

pub returns-in-Some-rule_broken-clause-checks : goal.returns-in-Some-rule_broken-clause-checks
returns-in-Some-rule_broken-clause-checks g c =
    let j = c.loop-n.invariant.judged in
    let f = rw c.in-Line.is at c.in_ok-next.ensures.found in
    let read = rw c.in-Some.is at c.in_ok-asked.ensures.found in
    let spelled = rw c.deref.ensures.value at read in
    let is_line = c.if-not-is_line.ensures.line refl in
    let h = rw is_line at c.in_ok-found.ensures.found in
    let k = c.in_ok-right_answer.ensures.ok j.session (stands_for _ _ _ c.args.limit _ _ c.loop-n-test.true c.requires.limit j) in
    let right = (rw c.deref-in-loop-n.ensures.value at c.without_newline.ensures) ∙ cut_line _ _ k.told in
    let broken = rw c.deref-in-loop-n-2.ensures.value at c.in-Some-rule_broken.ensures.some in
    told_ok _ _ _ (omega arith, is_broken _ _ _ _ _ _ _ _ _ _ _ _ j f.0 c.in-Some.asked spelled h.0 k right c.in-Some-rule_broken.rule broken)

pub loop-n-preserved : goal.loop-n-preserved
loop-n-preserved g c =
    let j = c.loop-n.invariant.judged in
    let f = rw c.in-Line.is at c.in_ok-next.ensures.found in
    let read = rw c.in-Some.is at c.in_ok-asked.ensures.found in
    let spelled = rw c.deref.ensures.value at read in
    let is_line = c.if-not-is_line.ensures.line refl in
    let h = rw is_line at c.in_ok-found.ensures.found in
    let k = c.in_ok-right_answer.ensures.ok j.session (stands_for _ _ _ c.args.limit _ _ c.loop-n-test.true c.requires.limit j) in
    let right = (rw c.deref-in-loop-n.ensures.value at c.without_newline.ensures) ∙ cut_line _ _ k.told in
    let none = rw c.in_default-rule_broken.is at c.rule_broken.ensures.none in
    let same = rw c.deref-in-loop-n-2.ensures.value at none in
    record {
      judged = goes_on _ _ _ _ _ _ _ _ _ _ _ _ j f.0 c.in-Some.asked spelled h.0 k right c.most_bytes.result c.most_bytes.ensures h.1 same;
      one_source = c.in_ok-found.ensures.one_source;
      none = c.in_ok-found.ensures.none;
      same = c.in_ok-found.ensures.faults.told (λ e. cc) ∙ c.in_ok-next.ensures.faults.told (λ e. cc) ∙ c.loop-n.invariant.same;
      unfailing = λ never. c.in_ok-found.ensures.never_later (c.in_ok-next.ensures.never_later (c.loop-n.invariant.unfailing never));
      before_end = λ sure. c.in_ok-found.ensures.still_before (c.in_ok-next.ensures.still_before (c.loop-n.invariant.before_end sure));
    }

pub returns-then-ended-clause-checks : goal.returns-then-ended-clause-checks
returns-then-ended-clause-checks g c =
    let f = c.in_ok-ended.ensures.end c.if-ended.true in
    let all : c.loop-n.n ≡ c.args.limit = omega arith in
    told_ok _ _ _ (omega arith, subst (λ (n : ℕ). AreLawfulIn (g.S.Source.left c.args.source.now) n) all (is_lawful _ _ _ _ _ c.loop-n.invariant.judged f))

pub returns-clause-checks : goal.returns-clause-checks
returns-clause-checks g c =
    let all : c.loop-n.n ≡ c.args.limit = omega arith in
    told_past _ _ (is_past _ _ _ _ _ _ c.loop-n.invariant.judged all (c.in_ok-ended.ensures.more c.if-ended.false))
