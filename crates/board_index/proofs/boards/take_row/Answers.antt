use Rattle.std.proofs.Common.{Option, None}
use Rattle.std.specs.Global.{Box}
use Rattle.std.specs.HashMap.{get}
use Rattle.std.specs.Prelude.{nat_eq}
use Rattle.board_model.specs.declared.tables.Board.{Board}
use Rattle.board_index.proofs.Indexed.{rows_turned}
use Rattle.board_index.proofs.boards.take_row.Goals as goal

abbrev no_row : Option (Box Board)
no_row = None

pub returns-clause-left : goal.returns-clause-left
returns-clause-left c = λ n. rows_turned (λ b. b.value) (get nat_eq c.args.rows.now n) (get nat_eq c.remove.new.self n) no_row (nat_eq c.args.number n) (c.remove.ensures.updates.0 n)
