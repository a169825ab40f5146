-- `judge_chained` meets its contract. The invariant: the rows from the position on are left, and the accounts before it are linked.
use mathlib.Core.Path.{sym, ◌∙◌}
use native.Mathlib.Numerals.{add-one}
use Rattle.series.proofs.ResultLaws.{refusal_met}
use Rattle.series.specs.declared.Method.{Method}
use Rattle.rising_lists.proofs.ListLaws.{judging_start, refused-order, refused-account, refused-shorts, judging_next, judged_all}
use Rattle.list_judging.proofs.judge_chained.Goals as goal

pub loop-i-init : goal.loop-i-init
loop-i-init c = (judging_start Method.Wheel _ _ _, c.new-chains.ensures c.args.list.now.positions.accounts.now)

pub returns-then-code-before : goal.returns-then-code-before
returns-then-code-before c = refused-order c.args.list.now.even c.loop-i.invariant.0 c.loop-i-test.true c.if-code-before.true

pub returns-then-repeated : goal.returns-then-repeated
returns-then-repeated c = refused-account c.args.list.now.even c.loop-i.invariant.0 c.loop-i-test.true c.if-code-before.false (sym c.is_account_refused-repeated.ensures ∙ c.if-repeated.true)

pub returns-in_err-left : goal.returns-in_err-left
returns-in_err-left c =
    rw (refusal_met c.from_residual.result _ c.from_residual.ensures.1) (refused-shorts c.args.list.now.even c.loop-i.invariant.0 c.loop-i-test.true c.if-code-before.false (sym c.is_account_refused-repeated.ensures ∙ c.if-repeated.false) _ c.in_err-left.ensures)

pub loop-i-preserved : goal.loop-i-preserved
loop-i-preserved c = (judging_next c.args.list.now.even c.loop-i.invariant.0 c.loop-i-test.true c.if-code-before.false (sym c.is_account_refused-repeated.ensures ∙ c.if-repeated.false) _ c.in_ok-left.ensures, rw (add-one c.loop-i.i) c.link.ensures)

pub returns : goal.returns
returns c = judged_all c.args.list.now.even c.loop-i.invariant.0 c.loop-i-test.false
