-- `run_jobs` meets its contract: by what holds after so many jobs.
use native.Mathlib.Omega.{arith}
use Prim.Native.Nat.{◌<◌}
use lib.ListN.{length}
use Rattle.jobs.proofs.TurnLaws.{goes_on, ends, placed_at}
use Rattle.jobs.proofs.run_jobs.Goals as goal

pub run_job-requires : goal.run_job-requires
run_job-requires c =
    let less : c.loop-job.job-index < length c.args.jobs.now = omega arith in
    placed_at c.args.list.now.accounts.now c.args.list.now.shorts.now c.args.jobs.now c.args.amounts.now c.loop-job.job-index c.loop-job.jobs c.loop-job.amounts c.loop-job.invariant less c.requires

pub loop-job-preserved : goal.loop-job-preserved
loop-job-preserved c =
    let less : c.loop-job.job-index < length c.args.jobs.now = omega arith in
    goes_on c.args.list.now.accounts.now c.args.list.now.shorts.now c.args.jobs.now c.args.amounts.now c.loop-job.job-index c.loop-job.jobs c.loop-job.amounts c.loop-job.invariant less
    c.run_job.result c.run_job.new.amounts c.run_job.ensures c.run_job.auto.amounts

pub returns : goal.returns
returns c = ends c.args.list.now.accounts.now c.args.list.now.shorts.now c.args.jobs.now c.args.amounts.now c.loop-job.job-index c.loop-job.jobs c.loop-job.amounts c.loop-job.invariant (omega arith)
