use Rattle.board_typed.proofs.Known.{read_cell, write_cell}
use Rattle.board_typed.proofs.laws.handles_share_the_cell.Goals as goal

pub returns : goal.returns
returns c = record { read = read_cell; write = write_cell }
