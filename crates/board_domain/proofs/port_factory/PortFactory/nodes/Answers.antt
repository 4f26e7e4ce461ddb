use Rattle.std.proofs.Common.{rules}
use Rattle.board_service.specs.Facts.{IsDomain}
use Rattle.board_domain.proofs.port_factory.PortFactory.nodes.Goals as goal

pub returns : goal.returns
returns g c =
    let facts : IsDomain c.deref.result.now.tables = search rules in
    (c.deref.result.now.tables, facts, c.nodes_in.ensures)
