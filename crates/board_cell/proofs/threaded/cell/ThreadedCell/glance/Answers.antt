use Rattle.std.proofs.Common.{rules, ◌≡◌, sym, ap, ◌∙◌, arith}
use Rattle.board_cell.proofs.ReaderSteps.{glancing_at}
use Rattle.board_cell.proofs.OnBoard.{look_is, word_of_access}
use Rattle.board_cell.proofs.threaded.cell.ThreadedCell.glance.Goals as goal

pub unreachable-requires : goal.unreachable-requires
unreachable-requires c = c.in_default.not-Read _ (look_is _ c.args.call.now c.next.result c.requires.call.0 c.next.ensures)

pub load-found-requires : goal.load-found-requires
load-found-requires c =
    let place : c.in-Read.word ≡ 0 = ap word_of_access (sym c.in-Read.is ∙ look_is _ c.args.call.now c.next.result c.requires.call.0 c.next.ensures) in
    let wide = c.self.invariant.0 in
    (search rules, omega arith, glancing_at _ _ _ _ _ c.requires.seat _ place)

pub returns-clause-reached : goal.returns-clause-reached
returns-clause-reached c = (c.load-found.ensures.2 _ c.requires.seat).1
