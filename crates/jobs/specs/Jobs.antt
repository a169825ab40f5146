-- Many series in one call (document 02): jobs over one pair of lists. Each job is the allocating call on its own stretch of the lists and of the output.
use Rattle.std.specs.Prelude.{ℕ, ◌+◌, ◌≡◌, Bool, false, not, ◌||◌, List, [], ◌∷◌, ◌++◌, eqb, ltb, length, take, drop}
use Rattle.series.specs.Results.{Result, ◌>>=◌, after, status}
use Rattle.series.specs.Outputs.{Lent}
use Rattle.series.specs.Series.{Series, MOST_POSITIONS, terms_of}
use Rattle.series.specs.Refusals.{Row, ◌⟶◌∣◌, first}
use Rattle.series.specs.Answers.{Allocation, handed_back}
use Rattle.series.specs.Call.{answer, output}
use Rattle.series.specs.declared.Method.{Method}
use Rattle.text_rules.specs.Letters.{method_by}
use Rattle.jobs.specs.declared.Job.{Job}
use Rattle.jobs.specs.declared.JobAnswer.{JobAnswer}

-- at most so many jobs
abbrev pub MOST_JOBS : ℕ
MOST_JOBS = 64

-- where the stretch of a job ends: its first position plus its number of positions, an exact sum
abbrev pub ending : Job → ℕ
ending j = j.first + j.positions

-- the stretch of a job in a list
abbrev pub stretch : Job → List ℕ → List ℕ
stretch j xs = take j.positions (drop j.first xs)

-- for the jobs in turn, the stretch before them having ended at e: one passes the list of n positions, or begins before the previous one ended
unfoldable pub misplaced : List Job → ℕ → ℕ → Bool
misplaced [] e n = false
misplaced (j ∷ js) e n = (ltb n (ending j) || ltb j.first e) || misplaced js (ending j) n

-- before any job: the whole lists, the number of jobs, their stretches; room is the length of the output
unfoldable pub jobs_rows : List ℕ → List ℕ → List Job → ℕ → List Row
jobs_rows accounts shorts js room =
    not (eqb (length accounts) (length shorts)) ⟶ 1 ∣
    ltb MOST_POSITIONS (length shorts) ⟶ 2 ∣
    ltb room (length shorts) ⟶ 4 ∣
    ltb MOST_JOBS (length js) ⟶ 21 ∣
    misplaced js 0 (length shorts) ⟶ 22 ∣
    []

-- judging the call: nothing of its own is handed back
unfoldable pub jobs_verdict : List ℕ → List ℕ → List Job → ℕ → Result Unit
jobs_verdict accounts shorts js room = first (jobs_rows accounts shorts js room) tt

-- the series of a job by the method m, with these lists: the code is the account number
abbrev pub job_series : Method → Job → List ℕ → List ℕ → Series
job_series m j accounts shorts = record { terms = terms_of m j.exercised j.draw j.increment; codes = accounts; accounts = accounts; shorts = shorts }

-- the allocating call of a job on lists of its own, with an output of length room; a letter that is none of the four is 14 before its other refusals
unfoldable pub job_answer : Job → List ℕ → List ℕ → ℕ → Result Allocation
job_answer j accounts shorts room = do
  m ← method_by j.method
  answer (job_series m j accounts shorts) room

-- its output, which held old
unfoldable pub job_output : Job → List ℕ → List ℕ → List ℕ → List ℕ
job_output j accounts shorts old = after (method_by j.method) (λ m. output (job_series m j accounts shorts) old) old

-- what the field for the answer holds then: 0, T and the further number (0 where there is none), or the number of the refusal, and T and the further number as they were
unfoldable pub recorded : Result Allocation → JobAnswer → JobAnswer
recorded r a = record { refusal = status r; total = after r (λ x. x.total) a.total; further = after r (λ x. handed_back x.further) a.further }

-- a record with this answer, and nothing else changed
abbrev pub with_answer : Job → JobAnswer → Job
with_answer j a = record { first = j.first; positions = j.positions; method = j.method; exercised = j.exercised; draw = j.draw; increment = j.increment; answer = a }

-- the record of a job after it, in the whole lists; old is the whole output before it
unfoldable pub record_after : List ℕ → List ℕ → Job → List ℕ → Job
record_after accounts shorts j old = with_answer j (recorded (job_answer j (stretch j accounts) (stretch j shorts) (length (stretch j old))) j.answer)

-- the whole output after a job: its own stretch is the output of its call, and all before and after it is kept
unfoldable pub output_after : List ℕ → List ℕ → Job → List ℕ → List ℕ
output_after accounts shorts j old = take j.first old ++ (job_output j (stretch j accounts) (stretch j shorts) (stretch j old) ++ drop (ending j) old)

-- the output after every job in turn
unfoldable pub output_after_all : List ℕ → List ℕ → List Job → List ℕ → List ℕ
output_after_all accounts shorts [] old = old
output_after_all accounts shorts (j ∷ js) old = output_after_all accounts shorts js (output_after accounts shorts j old)

-- the records after every job in turn: a refused job ends nothing
unfoldable pub records_after : List ℕ → List ℕ → List Job → List ℕ → List Job
records_after accounts shorts [] old = []
records_after accounts shorts (j ∷ js) old = record_after accounts shorts j old ∷ records_after accounts shorts js (output_after accounts shorts j old)

-- the call over the jobs: its answer r, 0 or the number of the refusal that it meets before any job; the records and the output, which a refusal keeps
pub record JobsCall (accounts shorts : List ℕ) (r : ℕ) (jobs : Lent (List Job)) (amounts : Lent (List ℕ)) : Type 0 where
  pub answers : r ≡ status (jobs_verdict accounts shorts jobs.old (length amounts.old))
  pub records : jobs.new ≡ after (jobs_verdict accounts shorts jobs.old (length amounts.old)) (λ _. records_after accounts shorts jobs.old amounts.old) jobs.old
  pub writes : amounts.new ≡ after (jobs_verdict accounts shorts jobs.old (length amounts.old)) (λ _. output_after_all accounts shorts jobs.old amounts.old) amounts.old
