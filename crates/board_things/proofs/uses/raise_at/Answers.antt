use Rattle.std.proofs.Common.{Some, arith, ◌+◌}
use Rattle.board_things.proofs.Counts.{pair_raised}
use Rattle.board_things.proofs.uses.raise_at.Goals as goal

pub returns : goal.returns
returns c = pair_raised c.args.counts.now c.insert.new.self c.args.board c.args.number (Some (c.count_at-n.result + 1)) c.in-Ok.ensures.updates.0 (omega (arith, c.count_at-n.ensures))
