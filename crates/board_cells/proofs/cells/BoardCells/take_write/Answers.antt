use Rattle.std.proofs.Common.{rules, ◌≡◌, length, arith}
use Rattle.std.specs.Prelude.{option_map}
use Rattle.board_cells.specs.Ends.{end_seen}
use Rattle.board_cells.specs.Places.{place_seen}
use Rattle.board_cells.proofs.Placing.{taken}
use Rattle.board_cells.proofs.cells.BoardCells.take_write.Goals as goal

pub returns-clause-after : goal.returns-clause-after
returns-clause-after c =
    let n : c.len.result ≡ length c.self.inside.places.items = search rules in
    let i = c.if-entry-len.false in
    let x = c.index_mut-place.result.now in
    taken c.self.inside.places.items _ c.self.view_is c.args.entry x _ (omega arith) c.index_mut-place.ensures.value (λ k. record (place_seen x) { parked = option_map end_seen (c.take.ensures.after k) })
