use Rattle.std.proofs.Common.{rules, ◌≡◌, length, sym, ap, ◌∙◌, arith}
use Rattle.board_cell.specs.Views.{writer_of}
use Rattle.board_cell.proofs.WriterSteps.{publishing_at}
use Rattle.board_cell.proofs.OnBoard.{raise_is, word_of_access, value_of_access}
use Rattle.board_cell.proofs.threaded.cell.ThreadedCell.publish.Goals as goal

pub unreachable-requires : goal.unreachable-requires
unreachable-requires c = c.in_default.not-Write _ _ (raise_is _ c.args.call.now (writer_of c.args.seat.now.me.0) c.next.result c.requires.call c.requires.last c.next.ensures)

pub store-requires : goal.store-requires
store-requires c =
    let x = writer_of c.args.seat.now.me.0 in
    let same : length c.self.inside.table.shared.key.items ≡ c.args.self.now.width = c.self.invariant.1 ∙ ap (λ v. v.width) c.self.view_is in
    let is = sym c.in-Write.is ∙ raise_is _ c.args.call.now x c.next.result c.requires.call c.requires.last c.next.ensures in
    let at : c.args.call.now.written ≡ length x.pending = ap (λ k. k.written) c.requires.call.owes in
    let wide = c.self.invariant.0 in
    (search rules, (let zeroth = ap word_of_access is in omega arith), publishing_at _ _ _ _ x c.requires.seat _ _ (ap word_of_access is) (ap value_of_access is) (sym at ∙ (c.requires.last ∙ sym same)))
