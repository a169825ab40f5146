-- `change` meets its contract: what reading gives is changed, and a refusal of either stands.
use mathlib.Core.Path.{sym, ◌∙◌}
use native.Mathlib.Omega.{arith}
use lib.ListN.{length}
use lib.Seq.{length-take-le}
use Rattle.series.specs.Answers.{number_of}
use Rattle.series.proofs.ResultLaws.{refusal_met}
use Rattle.text_rules.specs.Calls.{change_into}
use Rattle.text_rules.proofs.ReadingLaws.{read_refused}
use Rattle.text_rules.proofs.WritingLaws.{refused-writes}
use Rattle.series_text.proofs.ListingLaws.{ListingRead, listing_read}
use Rattle.form_change.proofs.CallLaws.{text-refused, written-text}
use Rattle.form_change.proofs.change.Goals as goal
use Rattle.form_change.proofs.change.Goals.{In_ok-read}

-- what was read
listing : (c : In_ok-read) → let r = c.in_ok-read.read in ListingRead c.args.text.now c.read.new.codes c.read.new.accounts c.read.new.numbers r.form r.terms r.positions
listing c = listing_read (record { codes_room = omega arith; accounts_room = omega arith; numbers_room = omega arith; codes_kept = c.read.auto.codes; accounts_kept = c.read.auto.accounts; numbers_kept = c.read.auto.numbers }) c.in_ok-read.ensures

pub slice_bounds-codes-end : goal.slice_bounds-codes-end
slice_bounds-codes-end c = (listing (goal.at.slice_bounds-codes-end c).In_ok-read).in_codes

pub slice_bounds-accounts-end : goal.slice_bounds-accounts-end
slice_bounds-accounts-end c = (listing (goal.at.slice_bounds-accounts-end c).In_ok-read).in_accounts

pub slice_bounds-numbers-end : goal.slice_bounds-numbers-end
slice_bounds-numbers-end c = (listing (goal.at.slice_bounds-numbers-end c).In_ok-read).in_numbers

pub slice_bounds-others-end : goal.slice_bounds-others-end
slice_bounds-others-end c = (listing (goal.at.slice_bounds-others-end c).In_ok-read).few

pub slice_bounds-listing-end : goal.slice_bounds-listing-end
slice_bounds-listing-end c = sym (length-take-le _ _ (listing (goal.at.slice_bounds-listing-end c).In_ok-read).in_codes)

pub slice_bounds-listing-end-2 : goal.slice_bounds-listing-end-2
slice_bounds-listing-end-2 c = sym (length-take-le _ _ (listing (goal.at.slice_bounds-listing-end-2 c).In_ok-read).in_accounts)

pub slice_bounds-listing-end-3 : goal.slice_bounds-listing-end-3
slice_bounds-listing-end-3 c = sym (length-take-le _ _ (listing (goal.at.slice_bounds-listing-end-3 c).In_ok-read).in_numbers)

pub slice_bounds-change_list-end : goal.slice_bounds-change_list-end
slice_bounds-change_list-end c = sym (length-take-le _ _ (listing (goal.at.slice_bounds-change_list-end c).In_ok-read).few)

pub change_list-requires : goal.change_list-requires
change_list-requires c = let l = (listing (goal.at.change_list-requires c).In_ok-read) in length-take-le _ _ l.few ∙ sym (length-take-le _ _ l.in_numbers)

pub returns-in_err-read : goal.returns-in_err-read
returns-in_err-read c =
    let refusal = text-refused c.args.text.now (length c.args.output.now) (number_of c.in_err-read.field-0.0) (read_refused _ _ _ _ (omega arith) (omega arith) (omega arith) _ c.in_err-read.ensures) in
    rw (refusal_met c.from_residual.result _ c.from_residual.ensures.1) (refused-writes (change_into c.args.text.now (length c.args.output.now)) c.args.output.now _ refusal)

pub returns : goal.returns
returns c = written-text c.args.text.now _ _ c.args.output.now _ (listing (goal.at.returns c).In_ok-read).reads c.change_list.ensures
