-- `judge_list` meets its contract.
use mathlib.Core.Path.{ap, ◌∙◌}
use Rattle.series.specs.Refusals.{list_verdict}
use Rattle.forms.proofs.FormLaws.{by_shorts}
use Rattle.listing.proofs.judge_list.Goals as goal

pub returns-in-Shorts : goal.returns-in-Shorts
returns-in-Shorts c = let l = c.args.listing.now in
    c.judge_list.ensures ∙ ap (λ s. list_verdict l.terms.method s.codes s.accounts s.shorts) c.series-series.ensures ∙ rw c.in-Shorts.is (by_shorts l.terms.method l.codes.now l.accounts.now l.numbers.now)
