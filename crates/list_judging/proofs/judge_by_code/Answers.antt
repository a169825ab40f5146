-- `judge_by_code` meets its contract: the rows of the length, and then the positions.
use mathlib.Core.Path.{◌≡◌, sym, ◌∙◌}
use Rattle.series.proofs.ResultLaws.{refusal_met}
use Rattle.series.specs.Refusals.{list_verdict_for, positions_verdict}
use Rattle.series.specs.declared.Method.{Method}
use Rattle.rising_lists.proofs.ListLaws.{lengths_refused, lengths_passed}
use Rattle.list_judging.proofs.judge_by_code.Goals as goal
use Rattle.list_judging.proofs.judge_by_code.Goals.{In_ok-list}

-- the positions of the even list decide
decided : (c : In_ok-list) → let ps = c.args.positions.now in let even = c.in_ok-list.list.positions in
    positions_verdict Method.Wheel even.codes.now even.accounts.now even.shorts.now ≡ list_verdict_for Method.Wheel ps.codes.now ps.accounts.now ps.shorts.now c.args.room
decided c = rw c.in_ok-list.ensures.list (sym (lengths_passed _ _ _ c.args.room c.in_ok-list.ensures.judged Method.Wheel))

pub returns-in_err-list : goal.returns-in_err-list
returns-in_err-list c = rw (refusal_met c.from_residual.result _ c.from_residual.ensures.1) (lengths_refused _ _ _ c.args.room _ c.in_err-list.ensures.judged Method.Wheel)

pub returns-in_err-total : goal.returns-in_err-total
returns-in_err-total c =
    rw (refusal_met c.from_residual-in_err-total.result _ c.from_residual-in_err-total.ensures.1) (c.in_err-total.ensures.walk_tells Method.Wheel ∙ decided (goal.at.returns-in_err-total c).In_ok-list)

pub returns-in-Some : goal.returns-in-Some
returns-in-Some c = (rw c.in-Some.is at (c.in_ok-total.ensures.walk_tells Method.Wheel)) ∙ decided (goal.at.returns-in-Some c).In_ok-list

pub returns-in-None : goal.returns-in-None
returns-in-None c = c.judge_chained.ensures ∙ decided (goal.at.returns-in-None c).In_ok-list
