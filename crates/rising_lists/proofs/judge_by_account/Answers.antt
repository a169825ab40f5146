-- `judge_by_account` meets its contract: the rows of the length, and then the positions.
use mathlib.Core.Path.{◌≡◌, sym, ◌∙◌}
use Rattle.series.proofs.ResultLaws.{refusal_met}
use Rattle.series.specs.Refusals.{list_verdict_for, positions_verdict}
use Rattle.series.specs.declared.Method.{Method}
use Rattle.rising_lists.proofs.ListLaws.{lengths_refused, lengths_passed, walked_by_account}
use Rattle.rising_lists.proofs.judge_by_account.Goals as goal
use Rattle.rising_lists.proofs.judge_by_account.Goals.{In_ok-even}

-- the positions of the even list decide
decided : (c : In_ok-even) (m : Method) → let l = c.args.list.now in let even = c.in_ok-even.even.positions in
    positions_verdict m even.codes.now even.accounts.now even.shorts.now ≡ list_verdict_for m l.accounts.now l.accounts.now l.shorts.now c.args.room
decided c m = rw (c.in_ok-even.ensures.list, c.positions.ensures) (sym (lengths_passed _ _ _ c.args.room (rw c.positions.ensures at c.in_ok-even.ensures.judged) m))

pub returns-in_err-even : goal.returns-in_err-even
returns-in_err-even c = λ m. rw (refusal_met c.from_residual.result _ c.from_residual.ensures.1) (lengths_refused _ _ _ c.args.room _ (rw c.positions.ensures at c.in_err-even.ensures.judged) m)

pub returns-in_err-judge_rising : goal.returns-in_err-judge_rising
returns-in_err-judge_rising c = λ m.
    rw (refusal_met c.from_residual-in_err-judge_rising.result _ c.from_residual-in_err-judge_rising.ensures.1) (c.in_err-judge_rising.ensures.walk_tells m ∙ decided (goal.at.returns-in_err-judge_rising c).In_ok-even m)

pub returns : goal.returns
returns c = λ m.
    let falls = rw (c.in_ok-even.ensures.list, c.positions.ensures) at c.in_ok-judge_rising.ensures.falls_only in
    rw c.ok_or.ensures.value (walked_by_account _ _ _ (c.in_ok-judge_rising.ensures.walk_tells m) falls ∙ decided (goal.at.returns c).In_ok-even m)
