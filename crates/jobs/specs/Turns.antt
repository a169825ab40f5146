-- What the functions under the call ask and promise.
use Rattle.std.specs.Prelude.{ℕ, ◌≤◌, ◌<◌, ◌≡◌, cond, List, [], ◌∷◌, ltb, length, get_or, Option, None, Some}
use Rattle.std.specs.Option.{option_and_then}
use Rattle.series.specs.Outputs.{Lent}
use Rattle.jobs.specs.Jobs.{ending, record_after, output_after, records_after, output_after_all}
use Rattle.jobs.specs.declared.Job.{Job}

-- what stands past the last record
abbrev pub no_job : Job
no_job = record { first = 0; positions = 0; method = 0; exercised = 0; draw = 0; increment = 0; answer = record { refusal = 0; total = 0; further = 0 } }

-- where the stretch of a job ends, after one that ended at e; none where it begins before that
abbrev pub next_end : Job → ℕ → Option ℕ
next_end j e = cond (ltb j.first e) None (Some (ending j))

-- where the last of the stretches ends, after one that ended at e; none where one begins before the previous one ended
unfoldable pub last_end : List Job → ℕ → Option ℕ
last_end [] e = Some e
last_end (j ∷ js) e = option_and_then (last_end js) (next_end j e)

-- lists of these lengths, and jobs of this number whose last stretch ends there
pub record Measured (accounts shorts : List ℕ) (js : List Job) (a s n : ℕ) (e : Option ℕ) : Type 0 where
  pub accounts_length : length accounts ≡ a
  pub shorts_length : length shorts ≡ s
  pub jobs_length : length js ≡ n
  pub last_end_is : last_end js 0 ≡ e

-- the stretch of a job lies in the lists and the output
pub record InPlace (j : Job) (accounts shorts amounts : List ℕ) : Type 0 where
  pub in_accounts : ending j ≤ length accounts
  pub in_shorts : ending j ≤ length shorts
  pub in_amounts : ending j ≤ length amounts

-- those of all jobs do
abbrev pub AllInPlace : List Job → List ℕ → List ℕ → List ℕ → Type 0
AllInPlace js accounts shorts amounts = (k : ℕ) → k < length js → InPlace (get_or js k no_job) accounts shorts amounts

-- a job of the whole lists: its record, and the whole output from old to new
pub record JobDone (j : Job) (accounts shorts : List ℕ) (r : Job) (old new : List ℕ) : Type 0 where
  pub recorded_as : r ≡ record_after accounts shorts j old
  pub written : new ≡ output_after accounts shorts j old

-- every job: the records and the whole output
pub record JobsDone (accounts shorts : List ℕ) (jobs : Lent (List Job)) (amounts : Lent (List ℕ)) : Type 0 where
  pub records : jobs.new ≡ records_after accounts shorts jobs.old amounts.old
  pub writes : amounts.new ≡ output_after_all accounts shorts jobs.old amounts.old
