use Rattle.std.proofs.Common.{rules, refl, arith}
use Rattle.board_cell.proofs.ReaderSteps.{opening_at}
use Rattle.board_cell.proofs.threaded.cell.ThreadedCell.load_opening.Goals as goal

pub load-requires : goal.load-requires
load-requires c =
    let wide = c.self.invariant.0 in
    (search rules, omega arith, opening_at _ _ _ _ _ c.requires.seat _ refl)

pub returns-clause-reached : goal.returns-clause-reached
returns-clause-reached c = (c.load.ensures.2 _ c.requires.seat).1
