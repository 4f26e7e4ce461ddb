use Rattle.board_typed.proofs.Keeps.{create_keeps, open_keeps, reader_keeps, writer_keeps, entry_keeps, entry_mut_keeps, release_keeps, release_mut_keeps}
use Rattle.board_typed.proofs.laws.calls_keep_others.Goals as goal

pub returns : goal.returns
returns c = record {
  created = λ b old new facts is gone. create_keeps gone b old new facts is;
  opened = λ d node name gone. open_keeps gone d node name;
  reader = λ d of gone. reader_keeps gone d of;
  writer = λ d of gone. writer_keeps gone d of;
  entry = λ d a reader gone. entry_keeps gone d a reader;
  entry_mut = λ d a writer gone. entry_mut_keeps gone d a writer;
  release = release_keeps;
  release_mut = release_mut_keeps;
}
