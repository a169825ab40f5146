-- `allocate_lasts` meets its contract: a list that is too long is refused for its length.
use Rattle.forms.specs.Forms.{listing_of}
use Rattle.listing.proofs.ListingLaws.{called_too_long}
use Rattle.listing.proofs.allocate_lasts.Goals as goal

pub returns-then-n-gt-MOST_POSITIONS : goal.returns-then-n-gt-MOST_POSITIONS
returns-then-n-gt-MOST_POSITIONS c = called_too_long (listing_of c.args.listing.now) _ c.args.amounts.now _ c.if-n-gt-MOST_POSITIONS.true (rw c.series.ensures at c.allocate.ensures)
