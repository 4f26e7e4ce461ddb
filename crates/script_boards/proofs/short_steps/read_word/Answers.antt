use Rattle.std.proofs.Common.{sym, ap, ◌∙◌}
use Rattle.board_cell.specs.Calls.{on_board}
use Rattle.board_model.proofs.BoundLaws.{no_write}
use Rattle.script_boards.proofs.short_steps.read_word.Goals as goal

pub unreachable-requires : goal.unreachable-requires
unreachable-requires g c =
    let call = c.args.call.now in
    no_write call.shape call.reading 0 0 c.in_default.field-0 c.in_default.field-1 (sym (ap (on_board 0) (sym c.in_default.is) ∙ c.next.ensures 0))
