-- `allocate` meets its contract.
use Rattle.forms.specs.Forms.{listing_of}
use Rattle.listing.proofs.ListingLaws.{called_by_shorts}
use Rattle.listing.proofs.allocate.Goals as goal

pub returns-in-Shorts : goal.returns-in-Shorts
returns-in-Shorts c = called_by_shorts (listing_of c.args.listing.now) _ c.args.amounts.now _ c.in-Shorts.is (rw c.series.ensures at c.allocate.ensures)
