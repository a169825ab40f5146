-- `judge_rising` meets its contract. The invariant: the rows from the position on are left, whatever the method, and no account before it is above the highest.
use Rattle.series.proofs.ResultLaws.{refusal_met}
use Rattle.series.specs.declared.Method.{Method}
use Rattle.rising_lists.proofs.ListLaws.{rising_start, rising_falls, rising_new, rising_next, refused-order, refused-shorts, judged_all}
use Rattle.rising_lists.proofs.judge_rising.Goals as goal

pub loop-i-init : goal.loop-i-init
loop-i-init c = rising_start c.args.list.now.positions.codes.now c.args.list.now.positions.accounts.now c.args.list.now.positions.shorts.now

pub returns-then-code-before-clause-walk_tells : goal.returns-then-code-before-clause-walk_tells
returns-then-code-before-clause-walk_tells c = λ m. refused-order c.args.list.now.even (c.loop-i.invariant.judging m) c.loop-i-test.true c.if-code-before.true

pub returns-then-account-highest-clause-falls_only : goal.returns-then-account-highest-clause-falls_only
returns-then-account-highest-clause-falls_only c = rising_falls c.loop-i.invariant c.args.list.now.even c.loop-i-test.true c.if-code-before.false c.if-account-highest.true

pub returns-in_err-left-clause-walk_tells : goal.returns-in_err-left-clause-walk_tells
returns-in_err-left-clause-walk_tells c = λ m.
    rw (refusal_met c.from_residual.result _ c.from_residual.ensures.1) (refused-shorts c.args.list.now.even (c.loop-i.invariant.judging m) c.loop-i-test.true c.if-code-before.false (rising_new c.loop-i.invariant c.if-account-highest.false m) _ c.in_err-left.ensures)

pub loop-i-preserved : goal.loop-i-preserved
loop-i-preserved c = rising_next c.loop-i.invariant c.if-account-highest.false c.args.list.now.even c.loop-i-test.true c.if-code-before.false _ c.in_ok-left.ensures

pub overflow_sub-result : goal.overflow_sub-result
overflow_sub-result c = (c.loop-i.invariant.judging Method.Wheel).left_most

pub returns-clause-walk_tells : goal.returns-clause-walk_tells
returns-clause-walk_tells c = λ m. judged_all c.args.list.now.even (c.loop-i.invariant.judging m) c.loop-i-test.false
