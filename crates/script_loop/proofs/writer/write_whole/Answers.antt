use Rattle.std.proofs.Common.{◌-◌, ◌≡◌, ◌∙◌, length, arith, refl, rules}
use Rattle.script_loop.proofs.Pieces.{all_gone, more_gone, more_written, none_gone, rest_fits}
use Rattle.script_loop.proofs.writer.write_whole.Goals as goal

pub loop-at-init : goal.loop-at-init
loop-at-init g c = record {
  inside = search rules;
  written = search rules;
  most = refl;
  same = search rules;
  room = λ n h le. none_gone (g.K.Sink.never_fails_within _) n h;
}

pub loop-at-preserved : goal.loop-at-preserved
loop-at-preserved g c = record {
  inside = search rules;
  written = more_written _ _ _ c.args.bytes.now c.loop-at.at c.in-Ok.taken c.loop-at.invariant.written c.in-Ok.ensures.bytes;
  most = c.in-Ok.ensures.most ∙ c.loop-at.invariant.most;
  same = search rules;
  room = λ n h le.
      more_gone (g.K.Sink.never_fails_within _) n c.loop-at.at c.in-Ok.taken
      (c.in-Ok.ensures.unfailing (n - c.loop-at.at) (c.loop-at.invariant.room n h le) (rest_fits c.args.bytes.now c.loop-at.at n le));
}

pub returns-in_default-clause-unfailing : goal.returns-in_default-clause-unfailing
returns-in_default-clause-unfailing g c = λ n h le.
    absurd (c.in_default.ensures.unfailing (n - c.loop-at.at) (c.loop-at.invariant.room n h le) (rest_fits c.args.bytes.now c.loop-at.at n le))

pub returns-in_default-clause-never_later : goal.returns-in_default-clause-never_later
returns-in_default-clause-never_later g c = λ n h le.
    absurd (c.in_default.ensures.unfailing (n - c.loop-at.at) (c.loop-at.invariant.room n h le) (rest_fits c.args.bytes.now c.loop-at.at n le))

pub returns-clause-never_later : goal.returns-clause-never_later
returns-clause-never_later g c = λ n h le.
    let whole : c.loop-at.at ≡ length c.args.bytes.now = omega arith in
    all_gone (g.K.Sink.never_fails_within _) n c.loop-at.at (length c.args.bytes.now) whole (c.loop-at.invariant.room n h le)
