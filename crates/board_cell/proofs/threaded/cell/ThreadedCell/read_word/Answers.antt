use Rattle.std.proofs.Common.{rules, ◌≡◌, ◌+◌, ◌<◌, length, sym, ap, ◌∙◌, arith}
use Rattle.board_cell_model.specs.OwedAccesses.{current_at}
use Rattle.board_cell.specs.Passes.{threaded_shape}
use Rattle.board_cell.specs.Views.{reader_of}
use Rattle.board_cell.proofs.CopyPlaces.{copy_within}
use Rattle.board_cell.proofs.ReaderSteps.{reading_word}
use Rattle.board_cell.proofs.OnBoard.{word_is, word_of_access}
use Rattle.board_cell.proofs.threaded.cell.ThreadedCell.read_word.Goals as goal

pub unreachable-requires : goal.unreachable-requires
unreachable-requires c = c.in_default.not-Read _ (word_is _ c.args.call.now (reader_of c.args.seat.now.me.0) c.next.result c.requires.call c.requires.more c.next.ensures)

pub load-found-requires : goal.load-found-requires
load-found-requires c =
    let x = reader_of c.args.seat.now.me.0 in
    let same : length c.self.inside.table.shared.key.items ≡ c.args.self.now.width = c.self.invariant.1 ∙ ap (λ v. v.width) c.self.view_is in
    let place = ap word_of_access (sym c.in-Read.is ∙ word_is _ c.args.call.now x c.next.result c.requires.call c.requires.more c.next.ensures) ∙ ap (λ m. current_at (threaded_shape m) x.opened + length x.found) (sym same) in
    let more = c.requires.more in
    let within : length x.found < length c.self.inside.table.shared.key.items = omega arith in
    let bounds = copy_within (length c.self.inside.table.shared.key.items) (x.opened + 1) (length x.found) within in
    let wide = c.self.invariant.0 in
    let key = c.self.invariant.1 in
    (search rules, omega arith, reading_word _ _ _ _ x c.requires.seat _ place within)
