-- `run_jobs` meets its contract. The invariant: the first records are done, the later ones are as they were.
use Rattle.jobs.proofs.TurnLaws.{Turned}
use Rattle.jobs.proofs.run_jobs.Given as goal

abbrev pub invariant-loop-job : goal.invariant-loop-job
invariant-loop-job l = Turned l.list.accounts.now l.list.shorts.now l.initial.jobs l.initial.amounts l.job-index l.jobs l.amounts
