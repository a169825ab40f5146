-- Demand 3 of every job that is not refused, among jobs that passed 22, in lists that passed 4. The laws:
--   job-accepted        its series is accepted, so that the laws of an accepted series hold of it
--   job-fair            its amounts add up to S, none is above its shorts, and under P each is near its share
--   job-wheel-shares    W: over the starting places its amounts add up to shorts times S
--   job-lottery-shares  L and R: so they do
use Prim.Native.Nat.{ℕ, ◌*◌, ◌≤◌, ◌<◌}
use mathlib.Core.Path.{◌≡◌, sym, ◌∙◌, ap}
use mathlib.Core.Bool.{false}
use mathlib.Core.List.{List}
use native.Mathlib.Omega.{arith}
use lib.ListN.{length, get_or}
use lib.Seq.{take_all}
use Rattle.series.specs.Results.{value}
use Rattle.series.specs.Places.{over_places}
use Rattle.series.specs.Series.{Series, held}
use Rattle.series.specs.Wheel.{wheel}
use Rattle.series.specs.Lottery.{lottery}
use Rattle.series.specs.Refusals.{Accepted, verdict}
use Rattle.series.specs.Answers.{Allocation}
use Rattle.series.specs.Call.{answer, output}
use Rattle.series.specs.Fair.{Fair, FairOutput}
use Rattle.series.specs.declared.Method.{Method}
use Rattle.series.proofs.ResultLaws.{stepped}
use Rattle.series.proofs.AcceptedLaws.{verdict_accepted}
use Rattle.series.proofs.Demand3.{call_fair, wheel_shares, lottery_shares}
use Rattle.text_rules.specs.Letters.{method_by}
use Rattle.jobs.specs.declared.Job.{Job}
use Rattle.jobs.specs.Jobs.{stretch, misplaced, job_series, job_answer, job_output, output_after_all}
use Rattle.jobs.specs.Turns.{no_job}
use Rattle.jobs.proofs.StretchLaws.{ends-within}
use Rattle.jobs.proofs.JobLaws.{answer_known, output_known}
use Rattle.jobs.proofs.AloneLaws.{stretch-length, job_output-length, stretch_alone}

-- ---- one job on lists and an output of its own

module _ (m : Method) (j : Job) (accounts shorts : List ℕ) (by : method_by j.method ≡ value m) where
  -- the series of the job
  abbrev series : Series
  series = job_series m j accounts shorts

  -- a series that is allocated is accepted
  accepted_alone : (room : ℕ) (a : Allocation) → job_answer j accounts shorts room ≡ value a → Accepted series room
  unfolding answer
  accepted_alone room a e =
      let s = stepped (verdict series room) _ a (sym (answer_known j accounts shorts m (sym by) room) ∙ e) in
      verdict_accepted series room s.from s.step

  -- the amounts of the job called alone are fair
  fair_alone : (old : List ℕ) (a : Allocation) → length old ≤ length shorts → job_answer j accounts shorts (length old) ≡ value a → Fair series (job_output j accounts shorts old)
  fair_alone old a even e =
      let written = output_known j accounts shorts m (sym by) old in
      let fair : FairOutput (answer series (length old)) series (output series old) = call_fair series old in
      let whole = take_all (length shorts) (output series old) (omega (arith, job_output-length j accounts shorts old, ap length written)) in
      rw (written, ← whole) (rw (sym (answer_known j accounts shorts m (sym by) (length old)) ∙ e) at fair)

-- ---- one of the jobs

module _ (accounts shorts : List ℕ) (js : List Job) (old : List ℕ) (room : length shorts ≤ length old) (laid : misplaced js 0 (length shorts) ≡ false) (k : ℕ) (here : k < length js) where
  -- job k
  abbrev job : Job
  job = get_or js k no_job

  module _ (m : Method) (by : method_by job.method ≡ value m) (a : Allocation) (e : job_answer job (stretch job accounts) (stretch job shorts) job.positions ≡ value a) where
    -- its series
    abbrev own : Series
    own = job_series m job (stretch job accounts) (stretch job shorts)

    -- it is accepted
    pub job_accepted : Accepted own job.positions
    job_accepted = accepted_alone m job (stretch job accounts) (stretch job shorts) by job.positions a e

    -- its amounts are fair
    pub job_fair : Fair own (stretch job (output_after_all accounts shorts js old))
    job_fair =
        let within = ends-within js 0 (length shorts) k laid here in
        let long = stretch-length job old (omega arith) in
        rw (stretch_alone accounts shorts js old room laid k here)
        (fair_alone m job (stretch job accounts) (stretch job shorts) by (stretch job old) a (omega (arith, long, stretch-length job shorts within)) (rw long e))

    -- W: summed over the starting places 1 to T, a position's amounts are its shorts times S
    pub job_wheel_shares : m ≡ Method.Wheel → (i : ℕ) → i < length (stretch job shorts)
        → over_places (held own) (λ p. get_or (wheel job.increment (stretch job shorts) job.exercised p) i 0) ≡ get_or (stretch job shorts) i 0 * job.exercised
    job_wheel_shares w = wheel_shares own job.positions job_accepted w

    -- L and R: so they are
    pub job_lottery_shares : (i : ℕ) → i < length (stretch job shorts)
        → over_places (held own) (λ p. get_or (lottery (stretch job shorts) job.exercised p) i 0) ≡ get_or (stretch job shorts) i 0 * job.exercised
    job_lottery_shares = lottery_shares own job.positions job_accepted
