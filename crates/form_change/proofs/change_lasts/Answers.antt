-- `change_lasts` meets its contract: a refusal of the list stands in its form, and what was judged is written by shorts.
use mathlib.Core.Path.{◌≡◌, ap, ◌∙◌}
use lib.ListN.{length}
use Rattle.series.specs.Answers.{number_of, outcome_of}
use Rattle.series.proofs.ResultLaws.{refusal_met}
use Rattle.series.specs.Refusals.{list_verdict}
use Rattle.forms.specs.Forms.{in_form, differences, listing_of, read_as}
use Rattle.forms.specs.declared.Form.{Form}
use Rattle.forms.proofs.FillLaws.{fill_whole}
use Rattle.forms.proofs.FormLaws.{in_form_is, by_differences}
use Rattle.text_rules.specs.Calls.{changed_into}
use Rattle.text_rules.proofs.WritingLaws.{refused-writes}
use Rattle.form_change.proofs.CallLaws.{verdict_on, list-refused, written_other}
use Rattle.form_change.proofs.change_lasts.Goals as goal
use Rattle.form_change.proofs.change_lasts.Goals.{After-in_form}

-- the shorts were filled in
filled : (c : After-in_form) → c.fill_shorts.new.shorts ≡ differences 0 c.args.listing.now.numbers.now
filled c = fill_whole c.args.listing.now.numbers.now c.args.shorts.now _ c.requires c.fill_shorts.ensures

-- the verdict on them, in the form of the list
told : (c : After-in_form) → outcome_of (λ T. T.0) c.in_form.result ≡ verdict_on (read_as Form.LastNumbers (listing_of c.args.listing.now))
told c =
    let l = c.args.listing.now in
    let verdict = c.judge_list-judged.ensures ∙ ap (λ s. list_verdict l.terms.method s.codes s.accounts s.shorts) c.series-series.ensures in
    by_differences l.terms.method l.codes.now l.accounts.now l.numbers.now _ _ (filled c) (in_form_is (λ T. T.0) Form.LastNumbers _ _ c.in_form.ensures ∙ ap (in_form Form.LastNumbers) verdict)

pub returns-in_err-in_form : goal.returns-in_err-in_form
returns-in_err-in_form c =
    let p = (goal.at.returns-in_err-in_form c).After-in_form in
    let refusal = list-refused (read_as Form.LastNumbers (listing_of c.args.listing.now)) (length c.args.output.now) (number_of c.in_err-in_form.field-0.0) (rw c.in_err-in_form.was at (told p)) in
    rw (refusal_met c.from_residual.result _ c.from_residual.ensures.1) (refused-writes (changed_into (read_as Form.LastNumbers (listing_of c.args.listing.now)) (length c.args.output.now)) c.args.output.now _ refusal)

pub returns : goal.returns
returns c =
    let p = (goal.at.returns c).After-in_form in
    written_other (read_as Form.LastNumbers (listing_of c.args.listing.now)) c.fill_shorts.new.shorts _ c.args.output.now _ _ (rw c.in_ok-in_form.was at (told p)) (filled p) c.write.ensures
