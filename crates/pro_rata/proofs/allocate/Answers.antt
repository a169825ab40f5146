-- `allocate` meets its contract: a refused call keeps its output, any other is assigned in two rounds.
use Rattle.series.proofs.ResultLaws.{refusal_met}
use Rattle.pro_rata.proofs.AnswerLaws.{allocate_refused, allocate_assigned}
use Rattle.pro_rata.proofs.allocate.Goals as goal

pub returns-in_err-judged : goal.returns-in_err-judged
returns-in_err-judged c =
    rw (refusal_met c.from_residual.result _ c.from_residual.ensures.1) (allocate_refused c.args.exercised.0 c.args.draw c.args.list.now.accounts.now c.args.list.now.shorts.now c.args.amounts.now _ (rw c.terms_of-terms.ensures at c.in_err-judged.ensures.judged))

pub returns : goal.returns
returns c =
    allocate_assigned c.args.exercised.0 c.args.draw c.args.list.now.accounts.now c.args.list.now.shorts.now c.args.amounts.now c.in_ok-judged.judged (rw c.terms_of-terms.ensures at c.in_ok-judged.ensures.judged)
    (rw c.terms_of-terms.ensures at c.in_ok-judged.ensures.list) _ _ c.assign-remainder.ensures.handed c.assign-remainder.ensures.written
