use Rattle.board_cell.proofs.Climbs.{no_older}
use Rattle.board_cell.proofs.laws.a_get_is_no_older.Goals as goal

pub returns : goal.returns
returns c = no_older
