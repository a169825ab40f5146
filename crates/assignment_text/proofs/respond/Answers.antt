-- `respond` meets its contract: what reading gives is assigned, and a refusal of either is printed.
use mathlib.Core.Path.{sym, ◌∙◌}
use native.Mathlib.Omega.{arith}
use lib.Seq.{length-take-le}
use Rattle.text_rules.proofs.ReadingLaws.{read_refused}
use Rattle.series_text.proofs.ListingLaws.{ListingRead, listing_read}
use Rattle.assignment_text.proofs.PrintLaws.{text-refused, text_read}
use Rattle.assignment_text.proofs.respond.Goals as goal
use Rattle.assignment_text.proofs.respond.Goals.{In-Ok}

-- what is known of the listing that was read
listing : (c : In-Ok) → let read = c.in-Ok.read in let l = c.read.new in ListingRead c.args.text.now l.codes l.accounts l.numbers read.form read.terms read.positions
listing c =
    listing_read (record { codes_room = omega arith; accounts_room = omega arith; numbers_room = omega arith; codes_kept = c.read.auto.codes; accounts_kept = c.read.auto.accounts; numbers_kept = c.read.auto.numbers }) c.in-Ok.ensures

pub returns-in-Err : goal.returns-in-Err
returns-in-Err c = text-refused c.args.text.now c.refuse.result c.args.output.now _ _ (read_refused _ _ _ _ (omega arith) (omega arith) (omega arith) _ c.in-Err.ensures) c.refuse.ensures

pub slice_bounds-codes-end : goal.slice_bounds-codes-end
slice_bounds-codes-end c = (listing (goal.at.slice_bounds-codes-end c).In-Ok).in_codes

pub slice_bounds-assign_listing-end : goal.slice_bounds-assign_listing-end
slice_bounds-assign_listing-end c = sym (length-take-le _ _ (listing (goal.at.slice_bounds-assign_listing-end c).In-Ok).in_codes)

pub slice_bounds-accounts-end : goal.slice_bounds-accounts-end
slice_bounds-accounts-end c = (listing (goal.at.slice_bounds-accounts-end c).In-Ok).in_accounts

pub slice_bounds-assign_listing-end-in-Ok : goal.slice_bounds-assign_listing-end-in-Ok
slice_bounds-assign_listing-end-in-Ok c = sym (length-take-le _ _ (listing (goal.at.slice_bounds-assign_listing-end-in-Ok c).In-Ok).in_accounts)

pub slice_bounds-numbers-end : goal.slice_bounds-numbers-end
slice_bounds-numbers-end c = (listing (goal.at.slice_bounds-numbers-end c).In-Ok).in_numbers

pub slice_bounds-assign_listing-end-in-Ok-2 : goal.slice_bounds-assign_listing-end-in-Ok-2
slice_bounds-assign_listing-end-in-Ok-2 c = sym (length-take-le _ _ (listing (goal.at.slice_bounds-assign_listing-end-in-Ok-2 c).In-Ok).in_numbers)

pub slice_bounds-amounts-end : goal.slice_bounds-amounts-end
slice_bounds-amounts-end c = (listing (goal.at.slice_bounds-amounts-end c).In-Ok).few

pub slice_bounds-assign_listing-end-in-Ok-3 : goal.slice_bounds-assign_listing-end-in-Ok-3
slice_bounds-assign_listing-end-in-Ok-3 c = sym (length-take-le _ _ (listing (goal.at.slice_bounds-assign_listing-end-in-Ok-3 c).In-Ok).few)

pub assign_listing-requires : goal.assign_listing-requires
assign_listing-requires c =
    let l = listing (goal.at.assign_listing-requires c).In-Ok in
    let numbers = length-take-le _ _ l.in_numbers in
    record { same = length-take-le _ _ l.in_accounts ∙ sym numbers; beside = length-take-le _ _ l.few ∙ sym numbers; few = omega (arith, numbers, l.few) }

pub returns-in-Ok : goal.returns-in-Ok
returns-in-Ok c = text_read c.args.text.now c.assign_listing.result c.args.output.now _ _ (listing (goal.at.returns-in-Ok c).In-Ok).reads c.assign_listing.ensures
