-- `allocate_in_room` meets its contract: the shorts are filled in, and the call is made on them.
use lib.ListN.{length-replicate}
use lib.Seq.{length-take-le}
use Rattle.series.specs.Answers.{allocation_of}
use Rattle.forms.specs.Forms.{listing_of}
use Rattle.forms.specs.declared.Form.{Form}
use Rattle.forms.proofs.FillLaws.{fill_whole}
use Rattle.forms.proofs.FormLaws.{in_form_is}
use Rattle.listing.proofs.ListingLaws.{called_by_differences}
use Rattle.listing.proofs.allocate_in_room.Goals as goal

pub returns : goal.returns
returns g c =
    let long = length-take-le _ _ (rw length-replicate c.requires.fits) in
    let shorts = fill_whole c.args.listing.now.numbers.now _ _ long c.fill_shorts.ensures in
    called_by_differences (listing_of c.args.listing.now) _ c.args.amounts.now _ _ _ shorts (in_form_is allocation_of Form.LastNumbers _ _ c.in_form.ensures) (rw c.series.ensures at c.allocate-answer.ensures)
