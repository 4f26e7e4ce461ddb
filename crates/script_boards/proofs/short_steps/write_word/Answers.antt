use Rattle.std.proofs.Common.{sym, ap, ◌∙◌}
use Rattle.board_cell.specs.Calls.{on_board}
use Rattle.script_boards.proofs.OwedAccesses.{no_read}
use Rattle.script_boards.proofs.short_steps.write_word.Goals as goal

pub unreachable-requires : goal.unreachable-requires
unreachable-requires g c = no_read _ 0 _ _ _ _ _ (ap (on_board 0) (sym c.in_default.is) ∙ c.next.ensures 0)

pub store-requires : goal.store-requires
store-requires g c = c.requires.word c.in-Write.word c.in-Write.value (ap (on_board c.args.board) (sym c.in-Write.is) ∙ c.next.ensures c.args.board)
