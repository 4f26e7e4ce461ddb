use Rattle.std.proofs.Common.{ℕ}
use Rattle.std.specs.Prelude.{Option, Some, None}
use Rattle.board_things.proofs.PartEnds.{count_given}
use Rattle.board_things.proofs.ends.count_of.Goals as goal

abbrev a_number : ℕ → Option ℕ
a_number n = Some n

abbrev no_number : Option ℕ
no_number = None

pub returns-in-Some : goal.returns-in-Some
returns-in-Some c = λ ps are. count_given c.args.ends.now (a_number c.in-Some.end.now) c.in-Some.ensures.value ps are

pub returns-in-None : goal.returns-in-None
returns-in-None c = λ ps are. count_given c.args.ends.now no_number c.in-None.ensures.value ps are
