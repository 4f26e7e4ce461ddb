use Rattle.board_model.proofs.ListingLaws.{nodes_ascend}
use Rattle.board_model.proofs.listing_laws.nodes_ascend.Goals as goal

pub returns : goal.returns
returns c = nodes_ascend
