-- A job of `dilbreth_allocate_jobs` and the same job by `dilbreth_allocate`.
use Prim.Native.Nat.{ℕ}
use mathlib.Core.Path.{◌≡◌, refl, ◌∙◌}
use mathlib.Core.List.{List}
use lib.ListN.{length}
use Rattle.series.specs.Results.{Result, refused, value, ◌>>=◌, after}
use Rattle.series.specs.Outputs.{lent}
use Rattle.series.specs.Series.{terms_of}
use Rattle.series.specs.Answers.{Allocation}
use Rattle.series.specs.Call.{answer, output}
use Rattle.series.specs.declared.Method.{Method}
use Rattle.forms.specs.Forms.{Listing, series_in, in_form}
use Rattle.forms.specs.declared.Form.{Form}
use Rattle.answer_numbers.specs.Numbers.{form_by}
use Rattle.text_rules.specs.Letters.{method_by}
use Rattle.jobs.specs.Jobs.{job_series, job_answer, job_output, recorded}
use Rattle.jobs.specs.declared.Job.{Job}
use Rattle.dilbreth.specs.Exports.{listing_by, called, Allocates}

-- a call on shorts is answered as it is
on-shorts : (r : Result Allocation) → in_form Form.Shorts r ≡ r
on-shorts (refused n) = refl
on-shorts (value a) = refl

module _ (j : Job) (accounts shorts : List ℕ) where
  -- the listing of a job: in shorts, with the accounts as codes
  abbrev alone : Result Listing
  alone = listing_by j.method j.exercised j.draw j.increment 0 accounts accounts shorts

  answer_alone : (room : ℕ) → called alone room ≡ job_answer j accounts shorts room
  unfolding called listing_by job_answer form_by
  answer_alone room = by_method_lem (method_by j.method)
    where
      by_method_lem : (m : Result Method)
          → ((m >>= (λ k. value (record { form = Form.Shorts; terms = terms_of k j.exercised j.draw j.increment; codes = accounts; accounts = accounts; numbers = shorts }))) >>= (λ l. in_form l.form (answer (series_in l) room))) ≡ (m >>= (λ k. answer (job_series k j accounts shorts) room))
      by_method_lem (refused n) = refl
      by_method_lem (value m) = on-shorts (answer (job_series m j accounts shorts) room)

  output_alone : (old : List ℕ) → after alone (λ l. output (series_in l) old) old ≡ job_output j accounts shorts old
  unfolding listing_by job_output form_by
  output_alone old = by_method_lem (method_by j.method)
    where
      by_method_lem : (m : Result Method)
          → after (m >>= (λ k. value (record { form = Form.Shorts; terms = terms_of k j.exercised j.draw j.increment; codes = accounts; accounts = accounts; numbers = shorts }))) (λ l. output (series_in l) old) old ≡ after m (λ k. output (job_series k j accounts shorts) old) old
      by_method_lem (refused n) = refl
      by_method_lem (value m) = refl

  -- `dilbreth_allocate` on a job's own lists, handed T and the further number of the record, answers and hands back what the record of the job then holds, and writes what stands in its stretch then
  pub as_single_call : (r : ℕ) (old new : List ℕ) (T f : ℕ) → Allocates alone r old new (lent j.answer.total T) (lent j.answer.further f)
      → (record { refusal = r; total = T; further = f } ≡ recorded (job_answer j accounts shorts (length old)) j.answer) × (new ≡ job_output j accounts shorts old)
  unfolding recorded
  as_single_call r old new T f call = (rw (← answer_alone (length old), call.answers, call.hands_total, call.hands_further) refl, call.writes ∙ output_alone old)
