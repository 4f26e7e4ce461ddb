use Rattle.std.proofs.Common.{rules, ◌∙◌}
use Rattle.board_cell.proofs.SeatSteps.{begins_as, splitting}
use Rattle.board_cell.proofs.threaded.cell.ThreadedCell.new.Goals as goal

pub of_words-requires : goal.of_words-requires
of_words-requires c = begins_as _ _ (c.as_slice.ensures.value ∙ c.in_ok-all.ensures)

pub split_seat-first-requires : goal.split_seat-first-requires
split_seat-first-requires c = (search rules, search rules, splitting _ _ _)
