use Rattle.board_model.proofs.ListingLaws.{keys_in_order}
use Rattle.board_model.proofs.listing_laws.keys_are_told_in_order.Goals as goal

pub returns : goal.returns
returns c = keys_in_order
