use Rattle.std.proofs.Common.{rules, ◌≡◌, ℕ, ◌+◌, ◌<◌, length, slice_index, sym, ap, ◌∙◌, arith}
use Rattle.board_cell_model.specs.OwedAccesses.{spare_at}
use Rattle.board_cell.specs.Passes.{threaded_shape}
use Rattle.board_cell.specs.Views.{writer_of, with_pending}
use Rattle.board_cell.specs.declared.threaded.view.View.TheVariants.{Writer}
use Rattle.board_cell.proofs.CopyPlaces.{copy_within}
use Rattle.board_cell.proofs.WriterSteps.{putting}
use Rattle.board_cell.proofs.OnBoard.{put_is, word_of_access, value_of_access}
use Rattle.board_cell.proofs.threaded.cell.ThreadedCell.put.Goals as goal

pub unreachable-requires : goal.unreachable-requires
unreachable-requires c = c.in_default.not-Write _ _ (put_is _ c.args.call.now (writer_of c.args.seat.now.me.0) c.next.result c.requires.call c.requires.more c.next.ensures)

pub store-requires : goal.store-requires
store-requires c =
    let x = writer_of c.args.seat.now.me.0 in
    let same : length c.self.inside.table.shared.key.items ≡ c.args.self.now.width = c.self.invariant.1 ∙ ap (λ v. v.width) c.self.view_is in
    let place = ap word_of_access (sym c.in-Write.is ∙ put_is _ c.args.call.now x c.next.result c.requires.call c.requires.more c.next.ensures) ∙ ap (λ m. spare_at (threaded_shape m) (length x.published) + length x.pending) (sym same) in
    let more = c.requires.more in
    let at : c.args.call.now.written ≡ length x.pending = ap (λ k. k.written) c.requires.call.owes in
    let within : length x.pending < length c.self.inside.table.shared.key.items = omega arith in
    let bounds = copy_within (length c.self.inside.table.shared.key.items) (length x.published) (length x.pending) within in
    let wide = c.self.invariant.0 in
    let key = c.self.invariant.1 in
    (search rules, omega arith, putting _ _ _ _ x c.requires.seat _ _ place within)

pub returns-clause-seat : goal.returns-clause-seat
returns-clause-seat c =
    let at : c.args.call.now.written ≡ length (writer_of c.args.seat.now.me.0).pending = ap (λ k. k.written) c.requires.call.owes in
    let value = ap value_of_access (sym c.in-Write.is ∙ put_is _ c.args.call.now (writer_of c.args.seat.now.me.0) c.next.result c.requires.call c.requires.more c.next.ensures) in
    c.store.ensures.2 _ c.requires.seat ∙ ap (λ (n : ℕ). (Writer (with_pending (writer_of c.args.seat.now.me.0) n), c.args.seat.now.me.1)) (value ∙ ap (slice_index c.args.call.now.words) (sym at))
