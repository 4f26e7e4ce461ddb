use Rattle.std.proofs.Common.{◌-◌, length, ap, inl, inr, refl, subst, rules, arith}
use Rattle.script_loop.specs.Reader.{line_given}
use Rattle.script_loop.proofs.LineLemmas.{takes_line}
use Rattle.script_exchanges.specs.DriveGrammar.{SpellsNoDrive}
use Rattle.script_exchanges.specs.Exchanges.{output_of}
use Rattle.script_drive.specs.Drivers.{SpellsSomeDrive}
use Rattle.script_drive.proofs.DriveEndings.{bad_at, complete, gave_up, is_long_past, is_past, is_spent, left_grammar, long_at, spent_at_once, unwritten, wanting, was_long, write_cut}
use Rattle.script_drive.proofs.DriveSteps.{fits_one_more, goes_on, stands_for, starts_on}
use Rattle.script_drive.proofs.run.run_driven.Goals as goal

pub loop-n-init : goal.loop-n-init
loop-n-init g c = record {
  on = starts_on _ _ _ _ _ _ _ _ _ c.in-Some.ensures.hand c.requires.lawful c.requires.stands;
  one_source = search rules;
  reads = refl;
  writes = refl;
  unfailing = λ h. h;
  before_end = λ h e. h;
}

pub returns-in_default-clause-runs : goal.returns-in_default-clause-runs
returns-in_default-clause-runs g c =
    gave_up _ _ _ _ _ refl refl (spent_at_once _ _ _ _ _ c.requires.lawful refl) (inl (record { unread = refl; unwritten = refl }))

pub returns-in-Ok-Long-clause-runs : goal.returns-in-Ok-Long-clause-runs
returns-in-Ok-Long-clause-runs g c =
    let f = rw c.in-Ok-Long.field-0-is at c.in-Ok-Long.ensures.fetched in
    left_grammar _ _ _ _ _ (search rules) (search rules) _ (long_at _ _ _ _ _ _ _ _ _ c.loop-n.invariant.on.run c.loop-n-test.true f)

pub returns-in-Err-Bad-clause-runs : goal.returns-in-Err-Bad-clause-runs
returns-in-Err-Bad-clause-runs g c =
    let f = rw c.in-Ok-Line.field-0-is at c.in-Ok-Line.ensures.fetched in
    let one = rw c.in-Ok-Line.field-0-is at c.in-Ok-Line.ensures.short in
    let none : SpellsNoDrive g.D.Drives.drive c.line.result.now = c.in-Err-Bad.ensures.bad (cc c.in-Err-Bad.field-0-is) in
    left_grammar _ _ _ _ _ (search rules) (search rules) _ (bad_at _ _ _ _ _ _ _ _ _ c.loop-n.invariant.on.run _ (line_given c.next.new.self) c.loop-n-test.true (takes_line _ _ _ _ one.0 f) (subst (SpellsNoDrive g.D.Drives.drive) c.line.ensures none))

pub returns-in-Err-OutOfMemory-clause-runs : goal.returns-in-Err-OutOfMemory-clause-runs
returns-in-Err-OutOfMemory-clause-runs g c =
    let f = rw c.in-Ok-Line.field-0-is at c.in-Ok-Line.ensures.fetched in
    let one = rw c.in-Ok-Line.field-0-is at c.in-Ok-Line.ensures.short in
    let some = c.in-Err-OutOfMemory.ensures.memory (cc c.in-Err-OutOfMemory.field-0-is) in
    gave_up _ _ _ _ _ (search rules) (search rules) (is_spent _ _ _ _ _ c.args.limit _ _ _ c.loop-n.invariant.on.run (omega arith))
    (inr (wanting _ _ _ _ _ _ _ _ _ c.loop-n.invariant.on.run _ (line_given c.next.new.self) c.loop-n-test.true (takes_line _ _ _ _ one.0 f) (subst (SpellsSomeDrive g.D.Drives.drive) c.line.ensures some)))

pub returns-in-Err-write_whole-clause-runs : goal.returns-in-Err-write_whole-clause-runs
returns-in-Err-write_whole-clause-runs g c =
    let r = c.loop-n.invariant.on.run in
    let f = rw c.in-Ok-Line.field-0-is at c.in-Ok-Line.ensures.fetched in
    let one = rw c.in-Ok-Line.field-0-is at c.in-Ok-Line.ensures.short in
    let s = stands_for _ _ _ _ _ c.args.limit _ _ _ _ c.loop-n-test.true c.requires.limit r in
    let a = c.in-Ok.ensures.ok r.exchanges s in
    let w = c.in-Err-write_whole.ensures.err in
    unwritten _ _ _ _ _ (search rules) (search rules) (write_cut _ _ _ _ _ _ c.args.limit _ _ _ _ _ _ _ w.0 r c.loop-n-test.true (takes_line _ _ _ _ one.0 f) (rw c.line.ensures at a) (rw c.deref.ensures.value at w.1) (rw c.deref.ensures.value at w.2)) (search rules)

pub returns-in-Err-write_whole-clause-writes : goal.returns-in-Err-write_whole-clause-writes
returns-in-Err-write_whole-clause-writes g c = λ room takes fits same.
    let on = c.loop-n.invariant.on in
    let f = rw c.in-Ok-Line.field-0-is at c.in-Ok-Line.ensures.fetched in
    let one = rw c.in-Ok-Line.field-0-is at c.in-Ok-Line.ensures.short in
    let s = stands_for _ _ _ _ _ c.args.limit _ _ _ _ c.loop-n-test.true c.requires.limit on.run in
    let a = c.in-Ok.ensures.ok on.run.exchanges s in
    let both = fits_one_more _ _ _ _ _ _ c.args.limit _ _ _ _ _ _ _ room on.run c.loop-n-test.true (takes_line _ _ _ _ one.0 f) (rw c.line.ensures at a) fits in
    let behind = on.room room takes (omega (arith, both)) in
    let done = c.in-Err-write_whole.ensures.unfailing (room - length (output_of on.run.exchanges)) behind (omega (arith, both, ap length c.deref.ensures.value)) in
    absurd cc

pub loop-n-preserved : goal.loop-n-preserved
loop-n-preserved g c =
    let on = c.loop-n.invariant.on in
    let f = rw c.in-Ok-Line.field-0-is at c.in-Ok-Line.ensures.fetched in
    let one = rw c.in-Ok-Line.field-0-is at c.in-Ok-Line.ensures.short in
    let s = stands_for _ _ _ _ _ c.args.limit _ _ _ _ c.loop-n-test.true c.requires.limit on.run in
    let a = c.in-Ok.ensures.ok on.run.exchanges s in
    record {
      on = goes_on _ _ _ _ _ _ _ _ _ _ _ _ _ _ _ _ _ _ _ on c.next.ensures.unended f one.0 (rw c.line.ensures at a) (rw c.deref.ensures.value at c.in-Ok-write_whole.ensures.ok) (rw c.deref.ensures.value at c.write_whole.ensures.never_later);
      one_source = c.next.ensures.one_source;
      reads = search rules;
      writes = search rules;
      unfailing = search rules;
      before_end = search rules;
    }

pub returns-in-Ok-Long-next-clause-runs : goal.returns-in-Ok-Long-next-clause-runs
returns-in-Ok-Long-next-clause-runs g c =
    let f = rw c.in-Ok-Long-next.field-0-is at c.in-Ok-Long-next.ensures.fetched in
    was_long _ _ _ _ _ (search rules) (search rules) (is_long_past _ _ _ _ _ _ _ _ _ c.loop-n.invariant.on.run (omega arith) f)

pub returns-clause-runs : goal.returns-clause-runs
returns-clause-runs g c =
    let f = rw c.in-Ok-Line-next.field-0-is at c.in-Ok-Line-next.ensures.fetched in
    let one = rw c.in-Ok-Line-next.field-0-is at c.in-Ok-Line-next.ensures.short in
    was_long _ _ _ _ _ (search rules) (search rules) (is_past _ _ _ _ _ _ _ _ _ c.loop-n.invariant.on.run _ (line_given c.next-2.new.self) (omega arith) (takes_line _ _ _ _ one.0 f))

pub returns-in-Ok-Long-clause-complete : goal.returns-in-Ok-Long-clause-complete
returns-in-Ok-Long-clause-complete g c = λ sure room takes fits. complete _ _ _ _ _ _ (returns-in-Ok-Long-clause-runs g c) (λ e. cc) (λ e. cc) fits.script

pub returns-in-Err-Bad-clause-complete : goal.returns-in-Err-Bad-clause-complete
returns-in-Err-Bad-clause-complete g c = λ sure room takes fits. complete _ _ _ _ _ _ (returns-in-Err-Bad-clause-runs g c) (λ e. cc) (λ e. cc) fits.script

pub returns-in-Ok-Long-next-clause-complete : goal.returns-in-Ok-Long-next-clause-complete
returns-in-Ok-Long-next-clause-complete g c = λ sure room takes fits. complete _ _ _ _ _ _ (returns-in-Ok-Long-next-clause-runs g c) (λ e. cc) (λ e. cc) fits.script

pub returns-clause-complete : goal.returns-clause-complete
returns-clause-complete g c = λ sure room takes fits. complete _ _ _ _ _ _ (returns-clause-runs g c) (λ e. cc) (λ e. cc) fits.script

pub returns-in-Err-write_whole-clause-complete : goal.returns-in-Err-write_whole-clause-complete
returns-in-Err-write_whole-clause-complete g c = λ sure room takes fits. complete _ _ _ _ _ _ (returns-in-Err-write_whole-clause-runs g c) (λ e. cc) (returns-in-Err-write_whole-clause-writes g c room takes fits.output) fits.script
