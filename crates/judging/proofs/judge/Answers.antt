-- `judge` meets its contract: the list's rows, and then those of what is exercised and of the draw.
use mathlib.Core.Path.{refl}
use Rattle.series.proofs.ResultLaws.{refusal_met}
use Rattle.series.specs.Answers.{series_of}
use Rattle.judging.proofs.TableLaws.{judged_parts, list_facts, list_of}
use Rattle.judging.proofs.judge.Goals as goal

pub returns-in_err-total-clause-judged : goal.returns-in_err-total-clause-judged
returns-in_err-total-clause-judged c =
    rw (refusal_met c.from_residual.result _ c.from_residual.ensures.1) (judged_parts (series_of c.args.series.now) c.args.room _ _ c.in_err-total.ensures refl)

pub invariant_of-call : goal.invariant_of-call
invariant_of-call c = let list = list_facts _ _ _ _ _ _ c.in_ok-total.ensures in record { few = list.few; sum = list.sum; small = list.small }

pub returns-clause-judged : goal.returns-clause-judged
returns-clause-judged c = judged_parts (series_of c.args.series.now) c.args.room _ _ c.in_ok-total.ensures c.judge_terms.ensures.judged

pub returns-clause-list : goal.returns-clause-list
returns-clause-list c = list_of _ _ _ _ (list_facts _ _ _ _ _ _ c.in_ok-total.ensures).fits c.judge_terms.ensures.list
