use Rattle.std.proofs.lemmas.Bool.Decides.{same_from_decides}
use Rattle.std.proofs.lemmas.Slice.Eq.{bytes_eq-Decides}
use Rattle.script_board_rows.proofs.keys.is_same.Goals as goal

pub returns-in-F8 : goal.returns-in-F8
returns-in-F8 c = rw c.in-F8.is (same_from_decides _ _ c.eq_ignore_ascii_case.ensures.test (bytes_eq-Decides _ _))
