use Rattle.board_domain.proofs.NodeLaws.{nodes_are_told}
use Rattle.board_domain.proofs.node_laws.nodes_are_told.Goals as goal

pub returns : goal.returns
returns c = nodes_are_told
