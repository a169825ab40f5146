-- One job: what it answers and writes by its method, and what it leaves of the whole lists.
use Prim.Native.Nat.{ℕ}
use mathlib.Core.Path.{◌≡◌, refl, ap}
use mathlib.Core.List.{List, ◌++◌}
use lib.ListN.{length, take, drop}
use lib.Seq.{drop-drop}
use Rattle.series.specs.Results.{value}
use Rattle.series.specs.Call.{answer, output}
use Rattle.series.specs.declared.Method.{Method}
use Rattle.text_rules.specs.Letters.{method_by}
use Rattle.jobs.specs.declared.Job.{Job}
use Rattle.jobs.specs.declared.JobAnswer.{JobAnswer}
use Rattle.jobs.specs.Jobs.{ending, job_series, job_answer, job_output, recorded, with_answer, record_after, output_after}
use Rattle.jobs.specs.Turns.{JobDone}

module _ (j : Job) (accounts shorts : List ℕ) where
  -- a letter that is one of the four
  pub answer_known : (m : Method) → value m ≡ method_by j.method → (room : ℕ) → job_answer j accounts shorts room ≡ answer (job_series m j accounts shorts) room
  unfolding job_answer
  answer_known m e room = rw (← e) refl

  pub output_known : (m : Method) → value m ≡ method_by j.method → (old : List ℕ) → job_output j accounts shorts old ≡ output (job_series m j accounts shorts) old
  unfolding job_output
  output_known m e old = rw (← e) refl

-- a job on its stretch of the whole lists, its answer recorded and its output written there: k is the stretch's length as it is worked out
pub on-stretch : (j : Job) (accounts shorts old new : List ℕ) (a : JobAnswer) (k : ℕ) → k ≡ j.positions
    → a ≡ recorded (job_answer j (take k (drop j.first accounts)) (take k (drop j.first shorts)) (length (take k (drop j.first old)))) j.answer
    → new ≡ job_output j (take k (drop j.first accounts)) (take k (drop j.first shorts)) (take k (drop j.first old))
    → JobDone j accounts shorts (with_answer j a) old (take j.first old ++ (new ++ drop k (drop j.first old)))
unfolding record_after output_after
on-stretch j accounts shorts old new a k e answered written =
    let a_is = rw e at answered in
    let new_is = rw e at written in
    rw (e, drop-drop j.positions j.first old) (record { recorded_as = ap (with_answer j) a_is; written = ap (λ (xs : List ℕ). take j.first old ++ (xs ++ drop (ending j) old)) new_is })
