-- `allocate_started` meets its contract: a refused call keeps its output, any other is assigned by the draw.
use Rattle.series.proofs.ResultLaws.{refusal_met}
use Rattle.allocation.proofs.AllocateLaws.{started_refused, started_leads, started_called}
use Rattle.allocation.proofs.allocate_started.Goals as goal

pub returns-in_err-judged : goal.returns-in_err-judged
returns-in_err-judged c =
    rw (refusal_met c.from_residual.result _ c.from_residual.ensures.1) (started_refused c.args.by c.args.exercised.0 c.args.draw c.args.list.now.accounts.now c.args.list.now.shorts.now c.args.amounts.now _ (rw (c.terms_of-terms.ensures, c.from.ensures) at c.in_err-judged.ensures.judged))

pub assign_by_draw-start-requires-clause-leads : goal.assign_by_draw-start-requires-clause-leads
assign_by_draw-start-requires-clause-leads c =
    started_leads c.args.by c.args.exercised.0 c.args.draw c.args.list.now.accounts.now c.args.list.now.shorts.now c.args.amounts.now c.in_ok-judged.judged
    (rw (c.terms_of-terms.ensures, c.from.ensures) at c.in_ok-judged.ensures.judged) (rw c.terms_of-terms.ensures at c.in_ok-judged.ensures.list)

pub returns : goal.returns
returns c =
    rw c.answer_for.ensures
    (started_called c.args.by c.args.exercised.0 c.args.draw c.args.list.now.accounts.now c.args.list.now.shorts.now c.args.amounts.now c.in_ok-judged.judged
    (rw (c.terms_of-terms.ensures, c.from.ensures) at c.in_ok-judged.ensures.judged) (rw c.terms_of-terms.ensures at c.in_ok-judged.ensures.list)
    _ _ c.assign_by_draw-start.ensures.result_value c.assign_by_draw-start.ensures.amounts_after)
