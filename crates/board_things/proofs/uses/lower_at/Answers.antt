use Rattle.std.proofs.Common.{Some, None, arith, ◌-◌}
use Rattle.std.proofs.lemmas.Bool.Decides.{nat_tests}
use Rattle.board_things.proofs.Counts.{pair_lowered}
use Rattle.board_things.proofs.uses.lower_at.Goals as goal

pub returns-then-n-eq1 : goal.returns-then-n-eq1
returns-then-n-eq1 c = pair_lowered c.args.counts.now c.remove.new.self c.args.board c.args.number None c.remove.ensures.updates.0 (grind (arith, nat_tests, c.if-n-eq1.true, c.count_at-n.ensures))

pub returns-in-Ok : goal.returns-in-Ok
returns-in-Ok c = pair_lowered c.args.counts.now c.insert.new.self c.args.board c.args.number (Some (c.count_at-n.result - 1)) c.in-Ok.ensures.updates.0 (omega (arith, c.requires, c.count_at-n.ensures))
