use Rattle.std.proofs.Common.{rules, ◌≡◌, ◌∙◌, sym, ap, length, arith}
use Rattle.std.specs.Prelude.{Some}
use Rattle.board_cells.specs.Cells.{PlaceSeen}
use Rattle.board_cells.specs.Places.{place_seen}
use Rattle.board_cells.proofs.Placing.{put_back, cell_there}
use Rattle.board_cells.proofs.cells.BoardCells.read_end.Goals as goal

pub returns-in_err-share-clause-same : goal.returns-in_err-share-clause-same
returns-in_err-share-clause-same c =
    let x = c.index_mut-place.result.now in
    let n : c.len.result ≡ length c.self.inside.places.items = search rules in
    let i = c.if-entry-len.false in
    let same = c.share.ensures.cell in
    put_back c.self.inside.places.items _ c.self.view_is c.args.entry x _ (omega arith) c.index_mut-place.ensures.value (λ k. record (place_seen x) { cell = same k })

pub returns-clause-same : goal.returns-clause-same
returns-clause-same c =
    let x = c.index_mut-place.result.now in
    let n : c.len.result ≡ length c.self.inside.places.items = search rules in
    let i = c.if-entry-len.false in
    let same = c.share.ensures.cell in
    put_back c.self.inside.places.items _ c.self.view_is c.args.entry x _ (omega arith) c.index_mut-place.ensures.value (λ k. record (place_seen x) { cell = same k })

pub returns-clause-cell : goal.returns-clause-cell
returns-clause-cell c =
    let x = c.index_mut-place.result.now in
    let n : c.len.result ≡ length c.self.inside.places.items = search rules in
    let i = c.if-entry-len.false in
    let shared = c.in_ok-share.ensures.shared in
    ap Some shared ∙ sym (cell_there c.self.inside.places.items _ c.self.view_is c.args.entry x (omega arith) c.index_mut-place.ensures.value)
