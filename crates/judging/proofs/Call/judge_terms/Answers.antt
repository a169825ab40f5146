-- `Call::judge_terms` meets its contract: S, then the increment, then the draw.
use Rattle.series.proofs.ResultLaws.{refusal_met}
use Rattle.judging.proofs.TableLaws.{then_increment}
use Rattle.judging.proofs.Call.judge_terms.Goals as goal

pub returns-in_err-judge_increment-clause-judged : goal.returns-in_err-judge_increment-clause-judged
returns-in_err-judge_increment-clause-judged c =
    rw (refusal_met c.from_residual.result _ c.from_residual.ensures.1, then_increment c.args.self.now.terms c.args.self.now.total.0 _ c.if-self-eq0.false c.if-self.false, ← c.in_err-judge_increment.ensures)

pub returns-in_err-judge_then_draw-clause-judged : goal.returns-in_err-judge_then_draw-clause-judged
returns-in_err-judge_then_draw-clause-judged c =
    rw (refusal_met c.from_residual-in_err-judge_then_draw.result _ c.from_residual-in_err-judge_then_draw.ensures.1, then_increment c.args.self.now.terms c.args.self.now.total.0 _ c.if-self-eq0.false c.if-self.false, ← c.in_ok-judge_increment.ensures) c.in_err-judge_then_draw.ensures

pub returns-clause-judged : goal.returns-clause-judged
returns-clause-judged c =
    rw (then_increment c.args.self.now.terms c.args.self.now.total.0 _ c.if-self-eq0.false c.if-self.false, ← c.in_ok-judge_increment.ensures) c.in_ok-judge_then_draw.ensures
