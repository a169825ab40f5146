-- Books of jobs with known answers and amounts, proved of the definitions by computation. The law:
--   claims-known    each book comes to what is claimed: its own answer, those of its records, and the output
use Prim.Native.Nat.{ℕ}
use Prim.Native.Char.{code}
use mathlib.Core.Path.{◌≡◌, refl}
use mathlib.Core.List.{List, [], ◌∷◌, ◌++◌, map}
use lib.ListN.{length, replicate}
use Rattle.series.specs.Results.{after, status}
use Rattle.series.proofs.Starred.{called_on, M_shorts}
use Rattle.text_rules.specs.Letters.{letter, method_among, method_by}
use Rattle.jobs.specs.declared.Job.{Job}
use Rattle.jobs.specs.declared.JobAnswer.{JobAnswer}
use Rattle.jobs.specs.Jobs.{misplaced, jobs_rows, jobs_verdict, job_answer, job_output, recorded, record_after, output_after, output_after_all, records_after}

-- a call: the whole lists, the jobs and the output
pub record Book : Type 0 where
  pub accounts : List ℕ
  pub shorts : List ℕ
  pub jobs : List Job
  pub amounts : List ℕ

-- what it comes to: its own answer, those of the records, and the output
pub record Settled : Type 0 where
  pub answered : ℕ
  pub answers : List JobAnswer
  pub written : List ℕ

-- a book, and what it is claimed to come to
pub record Claim : Type 0 where
  pub called : Book
  pub comes_to_is : Settled

-- the call; `called_on` names every definition that the call of one job computes with
unfoldable pub settled : Book → Settled
unfolding called_on letter method_among method_by misplaced jobs_rows jobs_verdict job_answer job_output recorded record_after output_after output_after_all records_after
settled b =
    let v = jobs_verdict b.accounts b.shorts b.jobs (length b.amounts) in
    record {
      answered = status v;
      answers = map (λ j. j.answer) (after v (λ _. records_after b.accounts b.shorts b.jobs b.amounts) b.jobs);
      written = after v (λ _. output_after_all b.accounts b.shorts b.jobs b.amounts) b.amounts;
    }

-- a job is allocated: T and the further number
abbrev done : ℕ → ℕ → JobAnswer
done T f = record { refusal = 0; total = T; further = f }

-- a field for the answer with this number, and with 88 and 99, which a refusal keeps
abbrev kept : ℕ → JobAnswer
kept n = record { refusal = n; total = 88; further = 99 }

-- a job that has not run: first position, number of positions, letter, S, draw, increment
abbrev job : ℕ → ℕ → ℕ → ℕ → ℕ → ℕ → Job
job f n m S d I = record { first = f; positions = n; method = m; exercised = S; draw = d; increment = I; answer = kept 77 }

-- a job under P that allocates one contract, where it has positions
abbrev one : ℕ → ℕ → Job
one f n = job f n (code "P") 1 0 0

-- a book with an output of so many elements, all 7: it goes on to its jobs, with these answers and amounts
abbrev goes_on : List ℕ → List ℕ → List Job → ℕ → List JobAnswer → List ℕ → Claim
goes_on accounts shorts js room rs vs =
    record {
      called = record { accounts = accounts; shorts = shorts; jobs = js; amounts = replicate room 7 };
      comes_to_is = record { answered = 0; answers = rs; written = vs };
    }

-- it is refused before any job, and its records and output are kept
abbrev turned_away : List ℕ → List ℕ → List Job → ℕ → ℕ → Claim
turned_away accounts shorts js room r =
    record {
      called = record { accounts = accounts; shorts = shorts; jobs = js; amounts = replicate room 7 };
      comes_to_is = record { answered = r; answers = map (λ j. kept 77) js; written = replicate room 7 };
    }

-- A's list, T = 355
abbrev A_shorts : List ℕ
A_shorts = 60 ∷ 200 ∷ 95 ∷ []

-- F's list, T = 10
abbrev F_shorts : List ℕ
F_shorts = 5 ∷ 3 ∷ 2 ∷ []

-- the books
pub claims : List Claim
claims =
    -- no jobs, on a list and on none
    goes_on (1 ∷ 2 ∷ []) (5 ∷ 3 ∷ []) [] 2 [] (7 ∷ 7 ∷ []) ∷
    goes_on [] [] [] 1 [] (7 ∷ []) ∷
    -- a job with no positions, on no list
    goes_on [] [] (one 0 0 ∷ []) 1 (kept 3 ∷ []) (7 ∷ []) ∷
    -- stretches that touch, the same accounts in both, and an element of the output past the list
    goes_on (1 ∷ 2 ∷ 3 ∷ 1 ∷ 2 ∷ 3 ∷ []) (A_shorts ++ F_shorts) (job 0 3 (code "W") 175 1 25 ∷ job 3 3 (code "P") 4 0 0 ∷ []) 7 (done 355 7 ∷ done 10 1 ∷ []) (35 ∷ 97 ∷ 43 ∷ 2 ∷ 1 ∷ 1 ∷ 7 ∷ []) ∷
    -- a gap, which is kept, between two jobs of one position: under P, and under L without a draw
    goes_on (4 ∷ 2 ∷ 9 ∷ []) (3 ∷ 5 ∷ 10 ∷ []) (one 0 1 ∷ job 2 1 (code "L") 4 0 0 ∷ []) 4 (done 3 1 ∷ done 10 0 ∷ []) (1 ∷ 7 ∷ 4 ∷ 7 ∷ []) ∷
    -- between two good jobs one whose S is above T
    goes_on (1 ∷ 2 ∷ 1 ∷ 2 ∷ 1 ∷ 2 ∷ []) (3 ∷ 2 ∷ 3 ∷ 2 ∷ 1 ∷ 1 ∷ []) (job 0 2 (code "P") 5 0 0 ∷ job 2 2 (code "P") 6 0 0 ∷ job 4 2 (code "L") 1 5001 0 ∷ []) 6 (done 5 0 ∷ kept 9 ∷ done 2 2 ∷ []) (3 ∷ 2 ∷ 7 ∷ 7 ∷ 0 ∷ 1 ∷ []) ∷
    -- W by tens, P, L and R
    goes_on (1 ∷ 2 ∷ 3 ∷ 1 ∷ 2 ∷ 3 ∷ 1 ∷ 2 ∷ 3 ∷ 4 ∷ 5 ∷ 1 ∷ 2 ∷ 3 ∷ 4 ∷ 5 ∷ []) (A_shorts ++ F_shorts ++ M_shorts ++ M_shorts)
    (job 0 3 (code "W") 175 1 10 ∷ job 3 3 (code "P") 4 0 10 ∷ job 6 5 (code "L") 13 4855 10 ∷ job 11 5 (code "R") 13 395 10 ∷ []) 16
    (done 355 18 ∷ done 10 1 ∷ done 36 18 ∷ done 36 36 ∷ [])
    (31 ∷ 103 ∷ 41 ∷ 2 ∷ 1 ∷ 1 ∷ 0 ∷ 0 ∷ 0 ∷ 8 ∷ 5 ∷ 5 ∷ 7 ∷ 0 ∷ 0 ∷ 1 ∷ []) ∷
    -- unknown letters, with positions and with none
    goes_on (1 ∷ 2 ∷ []) (5 ∷ 3 ∷ []) (job 0 2 (code "w") 4 1 25 ∷ job 2 0 (code "X") 4 1 25 ∷ []) 2 (kept 14 ∷ kept 14 ∷ []) (7 ∷ 7 ∷ []) ∷
    -- 64 jobs with no positions, and 65
    goes_on [] [] (replicate 64 (one 0 0)) 0 (replicate 64 (kept 3)) [] ∷
    turned_away [] [] (replicate 65 (one 0 0)) 0 21 ∷
    -- two stretches with one position in common; the later one first
    turned_away (1 ∷ 2 ∷ 3 ∷ []) F_shorts (one 0 2 ∷ one 1 2 ∷ []) 3 22 ∷
    turned_away (1 ∷ 2 ∷ 3 ∷ []) F_shorts (one 1 2 ∷ one 0 1 ∷ []) 3 22 ∷
    -- a stretch that ends one past the list; one whose end has more than 32 bits
    turned_away (1 ∷ 2 ∷ 3 ∷ []) F_shorts (one 0 2 ∷ one 2 2 ∷ []) 4 22 ∷
    turned_away (1 ∷ []) (5 ∷ []) (one 4294967295 4294967295 ∷ []) 1 22 ∷
    -- 21 before 22, 4 before 21, 2 before 4, 1 before 2
    turned_away (1 ∷ []) (5 ∷ []) (replicate 65 (one 0 1)) 1 21 ∷
    turned_away (1 ∷ []) (5 ∷ []) (replicate 65 (one 0 1)) 0 4 ∷
    turned_away (replicate 4097 1) (replicate 4097 1) (one 0 1 ∷ []) 0 2 ∷
    turned_away [] (replicate 4097 1) (one 0 1 ∷ []) 0 1 ∷
    []

-- each comes to what is claimed
pub claims_known : map (λ c. settled c.called) claims ≡ map (λ c. c.comes_to_is) claims
unfolding settled claims
claims_known = refl
