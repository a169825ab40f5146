-- What a call that is not refused promises of each of its jobs, from its promise alone. The laws:
--   call-record     its record is that of the job called alone
--   call-stretch    so is its stretch of the output
--   call-outside    an element in no stretch is kept
--   call-fair       where the job is not refused, its amounts are fair
use Prim.Native.Nat.{ℕ, ◌<◌}
use mathlib.Core.Path.{◌≡◌, sym, ap, ◌∙◌}
use mathlib.Core.List.{List}
use lib.ListN.{length, get_or}
use Rattle.series.specs.Results.{value}
use Rattle.series.specs.Outputs.{lent}
use Rattle.series.specs.Answers.{Allocation}
use Rattle.series.specs.Fair.{Fair}
use Rattle.series.specs.declared.Method.{Method}
use Rattle.text_rules.specs.Letters.{method_by}
use Rattle.jobs.specs.declared.Job.{Job}
use Rattle.jobs.specs.Jobs.{stretch, jobs_verdict, job_series, job_answer, job_output, output_after_all, records_after, JobsCall}
use Rattle.jobs.specs.Turns.{no_job}
use Rattle.jobs.proofs.AloneLaws.{Lies, Passed, done_alone, verdict_passed, record_alone, stretch_alone, outside_kept}
use Rattle.jobs.proofs.JobFair.{job_fair}
use Rattle.jobs.proofs.JobsCallLaws.{accepted}

module _ (accounts shorts : List ℕ) (js zs : List Job) (old os : List ℕ) (call : JobsCall accounts shorts 0 (lent js zs) (lent old os)) where
  -- it meets none of its refusals
  went_on : jobs_verdict accounts shorts js (length old) ≡ value tt
  went_on = accepted accounts shorts js old (sym call.answers)

  passed : Passed accounts shorts js (length old)
  passed = verdict_passed accounts shorts js (length old) went_on

  -- so records and output are those of its jobs
  records_are : zs ≡ records_after accounts shorts js old
  records_are = rw went_on at call.records

  output_is : os ≡ output_after_all accounts shorts js old
  output_is = rw went_on at call.writes

  -- what lies in no stretch is kept
  pub call_outside : (i : ℕ) → ((k : ℕ) → k < length js → Lies i (get_or js k no_job) → ⊥) → get_or os i 0 ≡ get_or old i 0
  call_outside i out = ap (λ xs. get_or xs i 0) output_is ∙ outside_kept accounts shorts js old passed.enough_room passed.laid i out

  module _ (k : ℕ) (here : k < length js) where
    -- job k
    abbrev job : Job
    job = get_or js k no_job

    -- its record
    pub call_record : get_or zs k no_job ≡ done_alone accounts shorts job
    call_record = ap (λ rs. get_or rs k no_job) records_are ∙ record_alone accounts shorts js old passed.enough_room passed.laid k here

    -- its stretch
    pub call_stretch : stretch job os ≡ job_output job (stretch job accounts) (stretch job shorts) (stretch job old)
    call_stretch = ap (stretch job) output_is ∙ stretch_alone accounts shorts js old passed.enough_room passed.laid k here

    -- its amounts, where it is not refused
    pub call_fair : (m : Method) → method_by job.method ≡ value m → (a : Allocation) → job_answer job (stretch job accounts) (stretch job shorts) job.positions ≡ value a
        → Fair (job_series m job (stretch job accounts) (stretch job shorts)) (stretch job os)
    call_fair m by a e = rw output_is (job_fair accounts shorts js old passed.enough_room passed.laid k here m by a e)
