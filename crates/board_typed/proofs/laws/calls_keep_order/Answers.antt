use Rattle.board_typed.proofs.Calls.{new_order, opens, makes_reader, makes_writer, reads, writes}
use Rattle.board_typed.proofs.Left.{gives_up, gives_up_writing}
use Rattle.board_typed.proofs.Made.{creates}
use Rattle.board_typed.proofs.laws.calls_keep_order.Goals as goal

pub returns : goal.returns
returns c = record {
  empty_one = new_order;
  created = creates;
  opened = opens;
  reader = makes_reader;
  writer = makes_writer;
  entry = reads;
  entry_mut = writes;
  release = gives_up;
  release_mut = λ d keys h facts o whole. gives_up_writing d keys h facts o whole.entry whole.cell;
}
