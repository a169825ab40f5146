-- `judge_both` meets its contract: the first list's refusal, then the second's, else the sum of both totals, which fits.
use mathlib.Core.Path.{sym}
use native.Mathlib.Omega.{arith}
use Rattle.series.proofs.ResultLaws.{refusal_met}
use Rattle.merging.specs.Merging.{account_list_of}
use Rattle.merging.proofs.JudgeLaws.{faultless, first-refused, second-refused, both_judged}
use Rattle.merging.proofs.judge_both.Goals as goal

pub returns-in_err-total : goal.returns-in_err-total
returns-in_err-total c =
    rw (refusal_met c.from_residual.result _ c.from_residual.ensures.1) (first-refused (account_list_of c.args.first.now) (account_list_of c.args.second.now) _ (sym c.in_err-total.ensures))

pub returns-in_err-more : goal.returns-in_err-more
returns-in_err-more c =
    rw (refusal_met c.from_residual-in_err-more.result _ c.from_residual-in_err-more.ensures.1) (second-refused (account_list_of c.args.first.now) (account_list_of c.args.second.now) _ _ (sym c.in_ok-total.ensures) (sym c.in_err-more.ensures))

pub overflow_add-result : goal.overflow_add-result
overflow_add-result c =
    let f = faultless (account_list_of c.args.first.now) _ (sym c.in_ok-total.ensures) in
    let g = faultless (account_list_of c.args.second.now) _ (sym c.in_ok-more.ensures) in
    omega (arith, f.sum, f.bounded.small, g.sum, g.bounded.small)

pub returns : goal.returns
returns c = both_judged (account_list_of c.args.first.now) (account_list_of c.args.second.now) _ _ (sym c.in_ok-total.ensures) (sym c.in_ok-more.ensures)
