use Rattle.dp_lister.proofs.ListingAgain.{list-load}
use Rattle.dp_lister.proofs.listing.listings_load_again.Goals as goal

pub returns : goal.returns
returns c = list-load
