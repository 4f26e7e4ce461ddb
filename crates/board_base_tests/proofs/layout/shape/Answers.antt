use Rattle.std.proofs.Common.{refl, arith}
use Rattle.board_base_tests.proofs.layout.shape.Goals as goal

pub returns : goal.returns
returns c = record { words = c.requires; alignment = (3, omega arith, refl) }
