use Rattle.std.proofs.Common.{◌/◌, arith, refl}
use Rattle.board_layout.specs.Layout.{end_from}
use Rattle.board_layout.proofs.Places.{all_laid}
use Rattle.board_layout.proofs.Cells.{suited, cells_disjoint, cells_within, words_of_bytes, IsWhole-end_from}
use Rattle.board_layout.proofs.planning.plan.Goals as goal

pub place_of-place-requires-clause-shape : goal.place_of-place-requires-clause-shape
place_of-place-requires-clause-shape c =
    let lt = c.loop-shape-test.true in
    rw c.deref-shape-items.ensures.value (c.requires _ _ (rw c.deref-shape-items.ensures.value at lt))

pub returns-clause-suited : goal.returns-clause-suited
returns-clause-suited c =
    let past = rw c.deref-shape-items.ensures.value at c.loop-shape-test.false in
    let e = all_laid _ _ _ _ _ past c.loop-shape.invariant in
    rw e.0 (suited 0 c.args.shapes.now.items c.requires)

pub returns-clause-disjoint : goal.returns-clause-disjoint
returns-clause-disjoint c =
    let past = rw c.deref-shape-items.ensures.value at c.loop-shape-test.false in
    let e = all_laid _ _ _ _ _ past c.loop-shape.invariant in
    rw e.0 (cells_disjoint 0 c.args.shapes.now.items c.requires)

pub returns-clause-within : goal.returns-clause-within
returns-clause-within c =
    let past = rw c.deref-shape-items.ensures.value at c.loop-shape-test.false in
    let e = all_laid _ _ _ _ _ past c.loop-shape.invariant in
    let whole = words_of_bytes (end_from 0 c.args.shapes.now.items) (IsWhole-end_from 0 c.args.shapes.now.items (0, refl) c.requires) in
    rw (e.0, e.1) (cells_within 0 (end_from 0 c.args.shapes.now.items / 8) c.args.shapes.now.items (omega (arith, whole)) c.requires)
