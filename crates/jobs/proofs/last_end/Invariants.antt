-- `last_end` meets its contract. The invariant: the records from the next on end where all of them end.
use Rattle.jobs.proofs.Ends.{Seen}
use Rattle.jobs.proofs.last_end.Given as goal

abbrev pub invariant-loop-job : goal.invariant-loop-job
invariant-loop-job l = Seen l.jobs l.job-index l.end
