use Rattle.std.proofs.Common.{◌-◌, ◌∙◌, length, ap, refl, subst, rules, arith, inl, inr}
use Rattle.script_model.specs.ScriptOutput.{output_of}
use Rattle.script_loop.specs.Reader.{line_given}
use Rattle.script_loop.specs.Machines.{SpellsNone}
use Rattle.script_loop.proofs.CompleteLemmas.{gave_up, left_grammar, unwritten, was_long}
use Rattle.script_loop.proofs.GoingOn.{fits_one_more, goes_further, starts_on}
use Rattle.script_loop.proofs.LineLemmas.{takes_line}
use Rattle.script_loop.proofs.RunLemmas.{bad_at, is_past, is_spent, long_at, spent_at_once, stands_for, wanting, write_cut}
use Rattle.script_loop.proofs.run.run_lines.Goals as goal

pub loop-n-init : goal.loop-n-init
loop-n-init g c = record {
  on = starts_on _ _ _ _ _ _ _ c.in-Some.ensures.hand c.requires.machine;
  one_source = search rules;
  reads = refl;
  writes = refl;
  most = refl;
  room = search rules;
  unfailing = λ h. h;
  before_end = λ h e. h;
}

pub returns-in_default-clause-memory : goal.returns-in_default-clause-memory
returns-in_default-clause-memory g c = λ e. inl (record { unread = refl; unwritten = refl })

pub returns-in_default-with_capacity-clause-memory : goal.returns-in_default-with_capacity-clause-memory
returns-in_default-with_capacity-clause-memory g c = λ e. inl (record { unread = refl; unwritten = refl })

pub returns-in-Err-OutOfMemory-clause-memory : goal.returns-in-Err-OutOfMemory-clause-memory
returns-in-Err-OutOfMemory-clause-memory g c = λ e.
    let f = rw c.in-Ok-Line.field-0-is at c.in-Ok-Line.ensures.fetched in
    let one = rw c.in-Ok-Line.field-0-is at c.in-Ok-Line.ensures.short in
    let w = c.in-Err-OutOfMemory.ensures.memory (cc c.in-Err-OutOfMemory.field-0-is) c.loop-n.invariant.room in
    inr (wanting _ g.M.RunsLines.wants _ _ c.args.limit _ _ _ _ _ c.loop-n.invariant.on.run c.loop-n-test.true (takes_line _ _ _ _ one.0 f) (rw c.line.ensures at w))

pub returns-in_default-clause-runs : goal.returns-in_default-clause-runs
returns-in_default-clause-runs g c = gave_up _ _ _ refl refl (spent_at_once _ _ _ refl)

pub returns-in_default-with_capacity-clause-runs : goal.returns-in_default-with_capacity-clause-runs
returns-in_default-with_capacity-clause-runs g c = gave_up _ _ _ refl refl (spent_at_once _ _ _ refl)

pub returns-in-Ok-Long-clause-runs : goal.returns-in-Ok-Long-clause-runs
returns-in-Ok-Long-clause-runs g c =
    let f = rw c.in-Ok-Long.field-0-is at c.in-Ok-Long.ensures.fetched in
    left_grammar _ _ _ (search rules) (search rules) _ (long_at _ _ _ _ _ _ _ c.loop-n.invariant.on.run c.loop-n-test.true f)

pub returns-in-Err-Bad-clause-runs : goal.returns-in-Err-Bad-clause-runs
returns-in-Err-Bad-clause-runs g c =
    let f = rw c.in-Ok-Line.field-0-is at c.in-Ok-Line.ensures.fetched in
    let one = rw c.in-Ok-Line.field-0-is at c.in-Ok-Line.ensures.short in
    let none : SpellsNone c.line.result.now = c.in-Err-Bad.ensures.bad (cc c.in-Err-Bad.field-0-is) in
    left_grammar _ _ _ (search rules) (search rules) _ (bad_at _ _ _ _ _ _ _ c.loop-n.invariant.on.run _ (line_given c.next.new.self) c.loop-n-test.true (takes_line _ _ _ _ one.0 f) (subst SpellsNone c.line.ensures none))

pub returns-in-Err-OutOfMemory-clause-runs : goal.returns-in-Err-OutOfMemory-clause-runs
returns-in-Err-OutOfMemory-clause-runs g c = gave_up _ _ _ (search rules) (search rules) (is_spent _ _ _ c.args.limit _ _ _ c.loop-n.invariant.on.run (omega arith))

pub returns-in-Err-write_whole-clause-runs : goal.returns-in-Err-write_whole-clause-runs
returns-in-Err-write_whole-clause-runs g c =
    let r = c.loop-n.invariant.on.run in
    let f = rw c.in-Ok-Line.field-0-is at c.in-Ok-Line.ensures.fetched in
    let one = rw c.in-Ok-Line.field-0-is at c.in-Ok-Line.ensures.short in
    let s = stands_for _ _ _ c.args.limit _ _ _ _ c.loop-n-test.true c.requires.limit r in
    let a = c.in-Ok-line.ensures.ok r.session s in
    let w = c.in-Err-write_whole.ensures.err in
    unwritten _ _ _ (search rules) (search rules) (write_cut _ _ _ _ c.args.limit _ _ _ _ _ _ _ w.0 r c.loop-n-test.true (takes_line _ _ _ _ one.0 f) (rw c.line.ensures at a) (rw c.deref.ensures.value at w.1) (rw c.deref.ensures.value at w.2)) (search rules)

pub returns-in-Err-write_whole-clause-writes : goal.returns-in-Err-write_whole-clause-writes
returns-in-Err-write_whole-clause-writes g c = λ room takes fits same.
    let on = c.loop-n.invariant.on in
    let f = rw c.in-Ok-Line.field-0-is at c.in-Ok-Line.ensures.fetched in
    let one = rw c.in-Ok-Line.field-0-is at c.in-Ok-Line.ensures.short in
    let s = stands_for _ _ _ c.args.limit _ _ _ _ c.loop-n-test.true c.requires.limit on.run in
    let a = c.in-Ok-line.ensures.ok on.run.session s in
    let both = fits_one_more _ _ _ _ c.args.limit _ _ _ _ _ _ _ room on.run c.loop-n-test.true (takes_line _ _ _ _ one.0 f) (rw c.line.ensures at a) fits in
    let behind = on.room room takes (omega (arith, both)) in
    let done = c.in-Err-write_whole.ensures.unfailing (room - length (output_of on.run.session)) behind (omega (arith, both, ap length c.deref.ensures.value)) in
    absurd cc

pub loop-n-preserved : goal.loop-n-preserved
loop-n-preserved g c =
    let on = c.loop-n.invariant.on in
    let f = rw c.in-Ok-Line.field-0-is at c.in-Ok-Line.ensures.fetched in
    let one = rw c.in-Ok-Line.field-0-is at c.in-Ok-Line.ensures.short in
    let s = stands_for _ _ _ c.args.limit _ _ _ _ c.loop-n-test.true c.requires.limit on.run in
    let a = c.in-Ok-line.ensures.ok on.run.session s in
    record {
      on = goes_further _ _ _ _ _ _ _ _ _ _ _ _ _ _ _ _ _ on c.next.ensures.unended f one.0 (rw c.line.ensures at a) (rw c.deref.ensures.value at c.in-Ok-write_whole.ensures.ok) (rw c.deref.ensures.value at c.write_whole.ensures.never_later);
      one_source = c.next.ensures.one_source;
      reads = search rules;
      writes = search rules;
      most = c.write_whole.ensures.most ∙ c.loop-n.invariant.most;
      room = search rules;
      unfailing = search rules;
      before_end = search rules;
    }

pub returns-clause-runs : goal.returns-clause-runs
returns-clause-runs g c =
    was_long _ _ _ (search rules) (search rules) (is_past _ _ _ _ _ _ _ c.loop-n.invariant.on.run (omega arith) (c.in-Ok-false.ensures.more c.in-Ok-false.field-0-test))
