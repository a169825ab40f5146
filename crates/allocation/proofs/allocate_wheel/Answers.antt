-- `allocate_wheel` meets its contract: a refused call keeps its output, any other is assigned by the wheel.
use Rattle.series.proofs.ResultLaws.{refusal_met}
use Rattle.series.specs.Answers.{series_of}
use Rattle.judging.proofs.CallLaws.{call_refused}
use Rattle.allocation.proofs.AllocateLaws.{wheel_asked, wheel_called}
use Rattle.allocation.proofs.allocate_wheel.Goals as goal

pub returns-in_err-list : goal.returns-in_err-list
returns-in_err-list c =
    rw (refusal_met c.from_residual.result _ c.from_residual.ensures.1) (call_refused (series_of c.args.series.now) c.args.amounts.now _ c.in_err-list.ensures.judged)

pub assign-blocks-requires-clause-increment : goal.assign-blocks-requires-clause-increment
assign-blocks-requires-clause-increment c = (wheel_asked (series_of c.args.series.now) c.args.amounts.now c.in_ok-list.list c.in_ok-list.ensures.judged c.in_ok-list.ensures.list c.requires).0

pub assign-blocks-requires-clause-on_wheel : goal.assign-blocks-requires-clause-on_wheel
assign-blocks-requires-clause-on_wheel c = (wheel_asked (series_of c.args.series.now) c.args.amounts.now c.in_ok-list.list c.in_ok-list.ensures.judged c.in_ok-list.ensures.list c.requires).1

pub returns : goal.returns
returns c = wheel_called (series_of c.args.series.now) c.args.amounts.now c.in_ok-list.list c.in_ok-list.ensures.judged c.in_ok-list.ensures.list c.requires _ _ c.assign-blocks.ensures.value c.assign-blocks.ensures.amounts_after
