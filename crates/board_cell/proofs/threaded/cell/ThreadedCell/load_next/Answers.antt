use Rattle.std.proofs.Common.{rules, ◌≡◌, ◌+◌, ◌<◌, length, sym, ap, ◌∙◌, arith}
use Rattle.board_cell_model.specs.OwedAccesses.{current_at}
use Rattle.board_cell.specs.Passes.{threaded_shape}
use Rattle.board_cell.specs.Views.{reader_of}
use Rattle.board_cell.proofs.CopyPlaces.{copy_within}
use Rattle.board_cell.proofs.ReaderSteps.{reading_word}
use Rattle.board_cell.proofs.threaded.cell.ThreadedCell.load_next.Goals as goal

pub load-requires : goal.load-requires
load-requires c =
    let x = reader_of c.args.seat.now.me.0 in
    let same : length c.self.inside.table.shared.key.items ≡ c.args.self.now.width = c.self.invariant.1 ∙ ap (λ v. v.width) c.self.view_is in
    let place = c.requires.next ∙ ap (λ m. current_at (threaded_shape m) x.opened + length x.found) (sym same) in
    let more = c.requires.more in
    let within : length x.found < length c.self.inside.table.shared.key.items = omega arith in
    let bounds = copy_within (length c.self.inside.table.shared.key.items) (x.opened + 1) (length x.found) within in
    let wide = c.self.invariant.0 in
    let key = c.self.invariant.1 in
    (search rules, omega arith, reading_word _ _ _ _ x c.requires.seat _ place within)
