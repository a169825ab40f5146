-- `judge_lasts` meets its contract: a list that is too long is refused for its length; of any other the shorts are filled in, and judged.
use mathlib.Core.Path.{ap, ◌∙◌}
use lib.ListN.{length-replicate}
use lib.Seq.{length-take-le}
use Rattle.series.specs.Refusals.{list_verdict}
use Rattle.forms.specs.Forms.{in_form}
use Rattle.forms.specs.declared.Form.{Form}
use Rattle.forms.proofs.FillLaws.{fill_whole}
use Rattle.forms.proofs.FormLaws.{in_form_is, by_differences}
use Rattle.forms.proofs.LastRows.{long-list}
use Rattle.listing.proofs.judge_lasts.Goals as goal

pub returns-then-n-gt-MOST_POSITIONS : goal.returns-then-n-gt-MOST_POSITIONS
returns-then-n-gt-MOST_POSITIONS c = let l = c.args.listing.now in
    c.judge_list.ensures ∙ ap (λ s. list_verdict l.terms.method s.codes s.accounts s.shorts) c.series-series.ensures ∙ long-list l.terms.method l.codes.now l.accounts.now l.numbers.now c.if-n-gt-MOST_POSITIONS.true

pub returns : goal.returns
returns c =
    let l = c.args.listing.now in
    let long = length-take-le _ _ (rw length-replicate c.if-n-gt-MOST_POSITIONS.false) in
    let shorts = fill_whole l.numbers.now _ _ long c.fill_shorts.ensures in
    let verdict = c.judge_list-judged.ensures ∙ ap (λ s. list_verdict l.terms.method s.codes s.accounts s.shorts) c.series-series-2.ensures in
    by_differences l.terms.method l.codes.now l.accounts.now l.numbers.now _ _ shorts (in_form_is (λ T. T.0) Form.LastNumbers _ _ c.in_form.ensures ∙ ap (in_form Form.LastNumbers) verdict)
