-- `run_job` meets its contract: the job's call on its parts of the lists and of the output.
use native.Mathlib.Omega.{arith}
use Prim.Native.Nat.{◌+◌, ◌-◌}
use Rattle.jobs.proofs.JobLaws.{on-stretch}
use Rattle.jobs.proofs.run_job.Goals as goal

pub returns : goal.returns
returns c =
    let positions = c.args.job.first + c.args.job.positions - c.args.job.first in
    on-stretch c.args.job c.args.list.now.accounts.now c.args.list.now.shorts.now c.args.amounts.now _ c.recorded.result positions (omega arith) (c.recorded.ensures _ c.call_job-outcome.ensures.answered) c.call_job-outcome.ensures.written
