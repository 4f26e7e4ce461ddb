use Rattle.std.proofs.Common.{rules, ◌≡◌, length, sym, ap, ◌∙◌, arith}
use Rattle.board_cell.specs.Views.{reader_of}
use Rattle.board_cell.proofs.ReaderSteps.{closing_at}
use Rattle.board_cell.proofs.OnBoard.{counter_is, word_of_access}
use Rattle.board_cell.proofs.threaded.cell.ThreadedCell.close_try.Goals as goal

pub unreachable-requires : goal.unreachable-requires
unreachable-requires c = c.in_default.not-Read _ (counter_is _ c.args.call.now (reader_of c.args.seat.now.me.0) c.next.result c.requires.call c.requires.last c.next.ensures)

pub load-found-requires : goal.load-found-requires
load-found-requires c =
    let x = reader_of c.args.seat.now.me.0 in
    let same : length c.self.inside.table.shared.key.items ≡ c.args.self.now.width = c.self.invariant.1 ∙ ap (λ v. v.width) c.self.view_is in
    let place : c.in-Read.word ≡ 0 = ap word_of_access (sym c.in-Read.is ∙ counter_is _ c.args.call.now x c.next.result c.requires.call c.requires.last c.next.ensures) in
    let wide = c.self.invariant.0 in
    (search rules, omega arith, closing_at _ _ _ _ x c.requires.seat _ place (c.requires.last ∙ sym same))
