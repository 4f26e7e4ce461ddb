use Rattle.std.proofs.Common.{subst}
use Rattle.board_service.specs.Domain.{Domain}
use Rattle.board_service.specs.Facts.{IsDomain}
use Rattle.board_service.proofs.domain_core.DomainCore.facts.Goals as goal

pub returns : goal.returns
returns g c = subst (λ (d : Domain g.row.C.Denot). IsDomain d) c.self.view_is (record { tables = c.self.invariant.core.tables; cells = c.self.invariant.core.cells })
