use Rattle.board_model.proofs.ListingLaws.{ports_counted}
use Rattle.board_model.proofs.listing_laws.ports_are_counted_once.Goals as goal

pub returns : goal.returns
returns c = ports_counted
