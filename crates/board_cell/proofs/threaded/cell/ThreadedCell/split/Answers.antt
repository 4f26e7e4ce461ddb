use Rattle.std.proofs.Common.{sym, ap, ◌∙◌, arith}
use Rattle.board_cell.proofs.SeatSteps.{splitting}
use Rattle.board_cell.proofs.threaded.cell.ThreadedCell.split.Goals as goal

pub split_seat-requires : goal.split_seat-requires
split_seat-requires c = let wide = c.self.invariant.0 in
    (ap (λ p. p.cell) c.pass.view_is ∙ (c.requires ∙ sym (ap (λ v. v.cell) c.self.view_is)), omega arith, splitting _ _ _)
