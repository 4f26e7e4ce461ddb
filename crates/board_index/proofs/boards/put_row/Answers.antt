use Rattle.std.proofs.Common.{Some}
use Rattle.std.specs.HashMap.{get}
use Rattle.std.specs.Prelude.{nat_eq}
use Rattle.board_index.proofs.Indexed.{rows_turned}
use Rattle.board_index.proofs.boards.put_row.Goals as goal

pub returns : goal.returns
returns c = λ n. rows_turned (λ b. b.value) (get nat_eq c.args.rows.now n) (get nat_eq c.insert.new.self n) (Some c.args.row) (nat_eq c.args.number n) (c.in-Ok.ensures.updates.0 n)
