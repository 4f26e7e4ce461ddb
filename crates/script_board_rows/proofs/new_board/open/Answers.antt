use Rattle.std.proofs.Common.{List, sym, subst, All}
use Rattle.board_layout.specs.declared.shape.Shape.{Shape}
use Rattle.board_layout.specs.Layout.{IsShape}
use Rattle.script_board_rows.proofs.ShapeLemmas.{cells_count, shapes_are}
use Rattle.script_board_rows.proofs.new_board.open.Goals as goal

pub plan-requires : goal.plan-requires
plan-requires c = subst (λ (shapes : List Shape). All IsShape shapes) (sym c.in_ok-shapes.ensures) (shapes_are c.args.added.now)

pub open_at-requires-clause-each : goal.open_at-requires-clause-each
open_at-requires-clause-each c = cells_count c.in-Ok.planned.cells.items c.in_ok-shapes.shapes.items c.args.added.now c.in-Ok.ensures.cells c.in_ok-shapes.ensures
