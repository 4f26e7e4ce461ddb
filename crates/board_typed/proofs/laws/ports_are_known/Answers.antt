use Rattle.board_typed.proofs.Known.{factory_reader_known, factory_writer_known, reader_known, writer_known}
use Rattle.board_typed.proofs.laws.ports_are_known.Goals as goal

pub returns : goal.returns
returns c = record {
  reader = reader_known;
  writer = writer_known;
  factory_reader = factory_reader_known;
  factory_writer = factory_writer_known;
}
