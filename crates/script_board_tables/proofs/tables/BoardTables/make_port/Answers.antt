use Rattle.std.proofs.Common.{ap}
use Rattle.board_model.specs.Things.{Standing}
use Rattle.script_board_tables.proofs.tables.BoardTables.make_port.Goals as goal

pub returns : goal.returns
returns c = record {
  standing = ap (λ (s : Standing). record s { tables = record s.tables { last_port = c.args.port } }) c.in_ok-hold.ensures.standing;
  memory = c.in_ok-hold.ensures.memory;
  lists = c.in_ok-hold.ensures.lists;
}
