use Rattle.board_model.proofs.ListingLaws.{nodes_once}
use Rattle.board_model.proofs.listing_laws.nodes_are_counted_once.Goals as goal

pub returns : goal.returns
returns c = nodes_once
