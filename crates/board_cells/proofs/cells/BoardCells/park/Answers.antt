use Rattle.std.proofs.Common.{rules, ◌≡◌, length, refl, arith}
use Rattle.board_cells.proofs.Placing.{keeps_full, free_there, parks}
use Rattle.board_cells.proofs.cells.BoardCells.park.Goals as goal

pub returns-then-is_some-clause-after : goal.returns-then-is_some-clause-after
returns-then-is_some-clause-after c =
    let x = c.index_mut-place.result.now in
    let n : c.len.result ≡ length c.self.inside.places.items = search rules in
    let i = c.if-entry-len.false in
    keeps_full c.self.inside.places.items _ c.self.view_is c.args.entry x x (omega arith) c.index_mut-place.ensures.value refl c.if-is_some.ensures _

pub returns-clause-free : goal.returns-clause-free
returns-clause-free c =
    let n : c.len.result ≡ length c.self.inside.places.items = search rules in
    let i = c.if-entry-len.false in
    (λ _. free_there c.self.inside.places.items _ c.self.view_is c.args.entry c.index_mut-place.result.now (omega arith) c.index_mut-place.ensures.value c.if-is_some.ensures, λ _. refl)

pub returns-clause-after : goal.returns-clause-after
returns-clause-after c =
    let n : c.len.result ≡ length c.self.inside.places.items = search rules in
    let i = c.if-entry-len.false in
    parks c.self.inside.places.items _ c.self.view_is c.args.entry c.index_mut-place.result.now _ (omega arith) c.index_mut-place.ensures.value c.if-is_some.ensures c.args.end refl
