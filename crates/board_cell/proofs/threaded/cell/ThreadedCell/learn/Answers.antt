use Rattle.std.proofs.Common.{sym, ap, ◌∙◌, arith}
use Rattle.board_cell.proofs.SeatSteps.{joining_reader_as}
use Rattle.board_cell.proofs.threaded.cell.ThreadedCell.learn.Goals as goal

pub join_seat-requires : goal.join_seat-requires
join_seat-requires c = let wide = c.self.invariant.0 in let own = sym (ap (λ v. v.cell) c.self.view_is) in
    (ap (λ p. p.cell) c.pass.view_is ∙ (c.requires.cell.0 ∙ own), ap (λ p. p.cell) c.receipt.view_is ∙ (c.requires.cell.1 ∙ own), c.receipt.invariant.1, omega arith, joining_reader_as _ _ _ _ _ c.pass.invariant.0 c.receipt.invariant.0.reader)
