use Rattle.board_domain.proofs.WalkLemmas.{walks_on}
use Rattle.board_domain.proofs.port_factory.PortFactory.nodes_in.Goals as goal

pub returns : goal.returns
returns g c = walks_on (λ f x r h. goal.F-step g f x r h) c.args.callback _ _ c.visit_nodes_in.ensures
