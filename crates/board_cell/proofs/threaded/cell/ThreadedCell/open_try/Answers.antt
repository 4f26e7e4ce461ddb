use Rattle.std.proofs.Common.{rules, ◌≡◌, sym, ap, ◌∙◌, arith}
use Rattle.board_cell.proofs.ReaderSteps.{opening_at}
use Rattle.board_cell.proofs.OnBoard.{opening_is, word_of_access}
use Rattle.board_cell.proofs.threaded.cell.ThreadedCell.open_try.Goals as goal

pub unreachable-requires : goal.unreachable-requires
unreachable-requires c = c.in_default.not-Read _ (opening_is _ c.args.call.now c.next.result c.requires.call c.next.ensures)

pub load-found-requires : goal.load-found-requires
load-found-requires c =
    let place : c.in-Read.word ≡ 0 = ap word_of_access (sym c.in-Read.is ∙ opening_is _ c.args.call.now c.next.result c.requires.call c.next.ensures) in
    let wide = c.self.invariant.0 in
    (search rules, omega arith, opening_at _ _ _ _ _ c.requires.seat _ place)

pub returns-clause-reached : goal.returns-clause-reached
returns-clause-reached c = (c.load-found.ensures.2 _ c.requires.seat).1
