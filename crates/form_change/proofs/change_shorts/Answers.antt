-- `change_shorts` meets its contract: a refusal of the list stands, and what was judged is written by last numbers.
use mathlib.Core.Path.{◌≡◌, ap, ◌∙◌}
use lib.ListN.{length}
use Rattle.series.specs.Results.{value}
use Rattle.series.specs.Answers.{number_of}
use Rattle.series.proofs.ResultLaws.{refusal_met}
use Rattle.series.specs.Refusals.{list_verdict}
use Rattle.forms.specs.Forms.{listing_of, read_as}
use Rattle.forms.specs.declared.Form.{Form}
use Rattle.forms.proofs.FormLaws.{by_shorts}
use Rattle.text_rules.specs.Calls.{changed_into}
use Rattle.text_rules.proofs.WritingLaws.{refused-writes}
use Rattle.form_change.proofs.CallLaws.{judged_small, list-refused, written_other}
use Rattle.form_change.proofs.change_shorts.Goals as goal
use Rattle.form_change.proofs.change_shorts.Goals.{In_ok-judge_list}

-- the list was judged
judged : (c : In_ok-judge_list) → let l = c.args.listing.now in value c.in_ok-judge_list.field-0.0 ≡ list_verdict l.terms.method l.codes.now l.accounts.now l.numbers.now
judged c = let l = c.args.listing.now in c.in_ok-judge_list.ensures ∙ ap (λ s. list_verdict l.terms.method s.codes s.accounts s.shorts) c.series-series.ensures

pub fill_lasts-requires : goal.fill_lasts-requires
fill_lasts-requires c = let l = c.args.listing.now in (c.requires, judged_small l.terms.method l.codes.now l.accounts.now l.numbers.now _ (judged (goal.at.fill_lasts-requires c).In_ok-judge_list))

pub returns-in_err-judge_list : goal.returns-in_err-judge_list
returns-in_err-judge_list c =
    let l = c.args.listing.now in
    let verdict = c.in_err-judge_list.ensures ∙ ap (λ s. list_verdict l.terms.method s.codes s.accounts s.shorts) c.series-series.ensures in
    let refusal = list-refused (read_as Form.Shorts (listing_of l)) (length c.args.output.now) (number_of c.in_err-judge_list.field-0.0) (verdict ∙ by_shorts l.terms.method l.codes.now l.accounts.now l.numbers.now) in
    rw (refusal_met c.from_residual.result _ c.from_residual.ensures.1) (refused-writes (changed_into (read_as Form.Shorts (listing_of l)) (length c.args.output.now)) c.args.output.now _ refusal)

pub returns : goal.returns
returns c =
    let l = c.args.listing.now in
    let accepted = judged (goal.at.returns c).In_ok-judge_list ∙ by_shorts l.terms.method l.codes.now l.accounts.now l.numbers.now in
    written_other (read_as Form.Shorts (listing_of l)) c.fill_lasts.new.lasts _ c.args.output.now _ _ accepted c.fill_lasts.ensures c.write.ensures
