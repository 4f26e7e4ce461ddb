use Rattle.board_snapshot.proofs.OneRunLemmas.{one_drive_line}
use Rattle.board_snapshot.proofs.run_laws.bytes_spell_one_line.Goals as goal

pub returns : goal.returns
returns c = one_drive_line
