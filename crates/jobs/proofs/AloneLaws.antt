-- Each job answers and writes what it does alone, on lists and an output of its own. The laws:
--   output-length, outputs-length   the output keeps its length, after one job and after all
--   job-stretch, job-outside        after one job its stretch is its own output, and all else is kept
--   stretches-alone                 where every two jobs are apart, in any order, each leaves in its stretch what it does alone
--   records-length, records-alone   as many records as jobs, each that of its job called alone
--   record-alone, stretch-alone     the record and the amounts of one of the jobs, as if it were called alone
--   outside_kept                    what lies in no stretch is kept
--   refused-kept                    a refused job keeps its stretch, T and the further number
--   verdict-passed                  what a call has that is not refused before its jobs
use mathlib.Core.Path.{◌≡◌, refl, sym, ◌∙◌, ap}
use mathlib.Core.Bool.{false}
use mathlib.Core.List.{List, [], ◌∷◌, ◌++◌, append_assoc, map}
use Prim.Native.Nat.{ℕ, zero, suc, ◌+◌, ◌-◌, ◌≤◌, ◌<◌}
use native.Mathlib.Nat.{le_of_suc-le-suc}
use native.Mathlib.Omega.{arith}
use native.Mathlib.Decide.{dec_lt}
use lib.ListN.{length, take, drop, get_or, length-append, length-take, length-drop, get_or-append}
use lib.Seq.{ext_get_or, get_or-append-add, get_or-take, get_or-drop, length-take-le}
use borrow.Author.Tests.{ltb-false, eqb-true, not-false}
use Rattle.series.specs.Results.{Result, refused, value, ◌>>=◌, after}
use Rattle.series.specs.Outputs.{onto}
use Rattle.series.specs.Series.{Series, MOST_POSITIONS}
use Rattle.series.specs.Refusals.{NoneApplies, verdict}
use Rattle.series.specs.Call.{assigned, answer, output}
use Rattle.series.specs.declared.Method.{Method}
use Rattle.series.proofs.ResultLaws.{never}
use Rattle.series.proofs.RowLaws.{value_passed}
use Rattle.series.proofs.CallLaws.{verdict-room}
use Rattle.series.proofs.Demand3.{length-assigned}
use Rattle.text_rules.specs.Letters.{method_by}
use Rattle.jobs.specs.declared.Job.{Job}
use Rattle.jobs.specs.Jobs.{MOST_JOBS, ending, stretch, misplaced, jobs_rows, jobs_verdict, job_series, job_answer, job_output, recorded, with_answer, record_after, output_after, output_after_all, records_after}
use Rattle.jobs.specs.Turns.{no_job}
use Rattle.jobs.proofs.StretchLaws.{ends-within, apart}

-- the element i lies in the stretch of the job
abbrev pub Lies : ℕ → Job → Type 0
Lies i j = (j.first ≤ i) × (i < ending j)

-- no element lies in both stretches
abbrev pub Apart : Job → Job → Type 0
Apart j k = (i : ℕ) → Lies i j → Lies i k → ⊥

-- every two of the jobs are apart
abbrev pub EachApart : List Job → Type 0
EachApart js = (i k : ℕ) → i < k → k < length js → Apart (get_or js i no_job) (get_or js k no_job)

-- every stretch ends within n elements
abbrev pub AllWithin : List Job → ℕ → Type 0
AllWithin js n = (k : ℕ) → k < length js → ending (get_or js k no_job) ≤ n

-- ---- a list os with ws written from f on

module _ (f c : ℕ) (ws os : List ℕ) (fits : f + c ≤ length os) (sized : length ws ≡ c) where
  -- the list then
  abbrev put : List ℕ
  put = take f os ++ (ws ++ drop (f + c) os)

  -- so many elements stand before ws
  front : length (take f os) ≡ f
  front = length-take-le f os (omega arith)

  -- the elements of ws
  put_inside : (n : ℕ) → n < c → get_or put (f + n) 0 ≡ get_or ws n 0
  put_inside n h =
      ap (λ m. get_or put (m + n) 0) (sym front) ∙ get_or-append-add (take f os) (ws ++ drop (f + c) os) n 0 ∙ get_or-append ws (drop (f + c) os) 0 n (omega arith)

  -- those before them
  put_before : (i : ℕ) → i < f → get_or put i 0 ≡ get_or os i 0
  put_before i h = get_or-append (take f os) (ws ++ drop (f + c) os) 0 i (omega (arith, front)) ∙ get_or-take f os i 0 h

  -- those past them
  put_past : (n : ℕ) → get_or put (f + c + n) 0 ≡ get_or os (f + c + n) 0
  put_past n =
      let long : length (take f os ++ ws) ≡ f + c = length-append (take f os) ws ∙ omega (arith, front) in
      ap (λ zs. get_or zs (f + c + n) 0) (sym (append_assoc (take f os) ws (drop (f + c) os)))
      ∙ ap (λ m. get_or ((take f os ++ ws) ++ drop (f + c) os) (m + n) 0) (sym long)
      ∙ get_or-append-add (take f os ++ ws) (drop (f + c) os) n 0
      ∙ get_or-drop (f + c) os n 0

  -- all but those of ws
  put_outside : (i : ℕ) → (f ≤ i → i < f + c → ⊥) → get_or put i 0 ≡ get_or os i 0
  put_outside i out =
      elim (dec_lt i f) [
        | yes l ↦ put_before i l
        | no l ↦ elim (dec_lt i (f + c)) [
          | yes m ↦ absurd (out (omega arith) m)
          | no m ↦ let at : f + c + (i - (f + c)) ≡ i = omega arith in ap (λ x. get_or put x 0) (sym at) ∙ put_past (i - (f + c)) ∙ ap (λ x. get_or os x 0) at
        ]
      ]

-- ---- the call of one job

-- the output of the allocating call keeps its length
written-length : (s : Series) (old : List ℕ) → length (output s old) ≡ length old
unfolding output onto
written-length s old = by_verdict (verdict s (length old)) refl
  where
    by_verdict : (v : Result ℕ) → verdict s (length old) ≡ v → length (output s old) ≡ length old
    by_verdict (refused n) e = rw e refl
    by_verdict (value T) e =
        let short = verdict-room s (length old) T e in
        rw e (length-append (assigned s.terms s.shorts) _ ∙ omega (arith, length-assigned s.terms s.shorts, length-drop (length (assigned s.terms s.shorts)) old))

-- so does the output of a job
pub job_output-length : (j : Job) (accounts shorts old : List ℕ) → length (job_output j accounts shorts old) ≡ length old
unfolding job_output
job_output-length j accounts shorts old = by_method_lem (method_by j.method)
  where
    by_method_lem : (r : Result Method) → length (after r (λ m. output (job_series m j accounts shorts) old) old) ≡ length old
    by_method_lem (refused n) = refl
    by_method_lem (value m) = written-length (job_series m j accounts shorts) old

-- a call that is refused writes nothing
refused-output : (s : Series) (old : List ℕ) (n : ℕ) → answer s (length old) ≡ refused n → output s old ≡ old
unfolding answer output
refused-output s old n e = by_verdict (verdict s (length old)) refl
  where
    by_verdict : (v : Result ℕ) → verdict s (length old) ≡ v → output s old ≡ old
    by_verdict (refused m) t = rw t refl
    by_verdict (value T) t = absurd (never n _ (sym (rw t at e)))

-- nor does a job that is
refused-writes : (j : Job) (accounts shorts old : List ℕ) (n : ℕ) → job_answer j accounts shorts (length old) ≡ refused n → job_output j accounts shorts old ≡ old
unfolding job_answer job_output
refused-writes j accounts shorts old n e = by_method_lem (method_by j.method) e
  where
    by_method_lem : (r : Result Method) → (r >>= (λ m. answer (job_series m j accounts shorts) (length old))) ≡ refused n → after r (λ m. output (job_series m j accounts shorts) old) old ≡ old
    by_method_lem (refused m) t = refl
    by_method_lem (value m) t = refused-output (job_series m j accounts shorts) old n t

-- ---- a stretch

-- within a list it has as many elements as the job has positions
pub stretch-length : (j : Job) (xs : List ℕ) → ending j ≤ length xs → length (stretch j xs) ≡ j.positions
stretch-length j xs h = simp (length-take, length-drop) (omega arith)

-- its elements
stretch-at : (j : Job) (xs : List ℕ) (n : ℕ) → n < j.positions → get_or (stretch j xs) n 0 ≡ get_or xs (j.first + n) 0
stretch-at j xs n h = get_or-take j.positions (drop j.first xs) n 0 h ∙ get_or-drop j.first xs n 0

-- it is a list of as many elements that has the same ones
stretch_is : (j : Job) (xs ys : List ℕ) → ending j ≤ length xs → length ys ≡ j.positions → ((n : ℕ) → n < j.positions → get_or xs (j.first + n) 0 ≡ get_or ys n 0) → stretch j xs ≡ ys
stretch_is j xs ys h sized same =
    let long = stretch-length j xs h in
    ext_get_or 0 (stretch j xs) ys (long ∙ sym sized) (λ n l. let m : n < j.positions = omega (arith, long) in stretch-at j xs n m ∙ same n m)

module _ (accounts shorts : List ℕ) where
  -- ---- the output after one job

  -- it keeps its length
  pub output-length : (j : Job) (old : List ℕ) → length (output_after accounts shorts j old) ≡ length old
  unfolding output_after
  output-length j old = simp (length-append, job_output-length, length-take, length-drop) (omega arith)

  module _ (j : Job) (old : List ℕ) (fits : ending j ≤ length old) where
    -- what the job writes
    abbrev wrote : List ℕ
    wrote = job_output j (stretch j accounts) (stretch j shorts) (stretch j old)

    -- as many amounts as it has positions
    wrote_length : length wrote ≡ j.positions
    wrote_length = job_output-length j (stretch j accounts) (stretch j shorts) (stretch j old) ∙ stretch-length j old fits

    -- an element that does not lie in the stretch is kept
    pub job_outside : (i : ℕ) → (Lies i j → ⊥) → get_or (output_after accounts shorts j old) i 0 ≡ get_or old i 0
    unfolding output_after
    job_outside i out = put_outside j.first j.positions wrote old fits wrote_length i (λ l m. out (l, m))

    -- the elements of the stretch
    pub job_inside : (n : ℕ) → n < j.positions → get_or (output_after accounts shorts j old) (j.first + n) 0 ≡ get_or wrote n 0
    unfolding output_after
    job_inside = put_inside j.first j.positions wrote old fits wrote_length

    -- the whole stretch
    pub job_stretch : stretch j (output_after accounts shorts j old) ≡ wrote
    job_stretch = stretch_is j (output_after accounts shorts j old) wrote (omega (arith, output-length j old)) wrote_length job_inside

    -- a stretch that has no element of this one is kept
    pub job_aside : (i : Job) → ending i ≤ length old → Apart i j → stretch i (output_after accounts shorts j old) ≡ stretch i old
    job_aside i within apart =
        stretch_is i (output_after accounts shorts j old) (stretch i old) (omega (arith, output-length j old)) (stretch-length i old within)
        (λ n l. job_outside (i.first + n) (apart (i.first + n) (omega arith, omega arith)) ∙ sym (stretch-at i old n l))

  -- the later stretches end within the output as it is then
  within_then : (j : Job) (js : List Job) (old : List ℕ) → AllWithin (j ∷ js) (length old) → AllWithin js (length (output_after accounts shorts j old))
  within_then j js old w k l = rw (output-length j old) (w (suc k) (omega arith))

  -- ---- the output after all

  -- it keeps its length
  pub outputs_length : (js : List Job) (old : List ℕ) → length (output_after_all accounts shorts js old) ≡ length old
  unfolding output_after_all
  outputs_length [] old = refl
  outputs_length (j ∷ js) old = outputs_length js (output_after accounts shorts j old) ∙ output-length j old

  -- an element that lies in no stretch is kept
  pub outside_all : (js : List Job) (old : List ℕ) → AllWithin js (length old) → (i : ℕ) → ((k : ℕ) → k < length js → Lies i (get_or js k no_job) → ⊥) → get_or (output_after_all accounts shorts js old) i 0 ≡ get_or old i 0
  unfolding output_after_all
  outside_all [] old w i out = refl
  outside_all (j ∷ js) old w i out =
      let fits = w 0 (omega arith) in
      outside_all js (output_after accounts shorts j old) (within_then j js old w) i (λ k l. out (suc k) (omega arith)) ∙ job_outside j old fits i (out 0 (omega arith))

  -- so is a stretch that has no element of any of theirs
  aside_all : (i : Job) (js : List Job) (old : List ℕ) → AllWithin js (length old) → ending i ≤ length old → ((k : ℕ) → k < length js → Apart i (get_or js k no_job)) → stretch i (output_after_all accounts shorts js old) ≡ stretch i old
  unfolding output_after_all
  aside_all i [] old w within apart = refl
  aside_all i (j ∷ js) old w within apart =
      aside_all i js (output_after accounts shorts j old) (within_then j js old w) (omega (arith, output-length j old)) (λ k l. apart (suc k) (omega arith)) ∙ job_aside j old (w 0 (omega arith)) i within (apart 0 (omega arith))

  -- what each job leaves in its stretch, where every two are apart
  pub stretches_alone : (js : List Job) (old : List ℕ) (k : ℕ) → AllWithin js (length old) → EachApart js → k < length js
      → stretch (get_or js k no_job) (output_after_all accounts shorts js old) ≡ job_output (get_or js k no_job) (stretch (get_or js k no_job) accounts) (stretch (get_or js k no_job) shorts) (stretch (get_or js k no_job) old)
  unfolding output_after_all
  stretches_alone [] old k w apart l = absurd (omega arith)
  stretches_alone (j ∷ js) old zero w apart l =
      let fits = w 0 (omega arith) in
      aside_all j js (output_after accounts shorts j old) (within_then j js old w) (omega (arith, output-length j old)) (λ k m. apart 0 (suc k) (omega arith) (omega arith)) ∙ job_stretch j old fits
  stretches_alone (j ∷ js) old (suc k) w apart l =
      let fits = w 0 (omega arith) in
      let i : Job = get_or js k no_job in
      stretches_alone js (output_after accounts shorts j old) k (within_then j js old w) (λ x y m o. apart (suc x) (suc y) (omega arith) (omega arith)) (le_of_suc-le-suc l)
      ∙ ap (job_output i (stretch i accounts) (stretch i shorts)) (job_aside j old fits i (w (suc k) l) (λ x y z. apart 0 (suc k) (omega arith) l x z y))

  -- ---- the records

  -- a record after the job was called alone, with an output that is as long as its lists
  abbrev pub done_alone : Job → Job
  done_alone j = with_answer j (recorded (job_answer j (stretch j accounts) (stretch j shorts) j.positions) j.answer)

  -- as many records as jobs
  pub records-length : (js : List Job) (old : List ℕ) → length (records_after accounts shorts js old) ≡ length js
  unfolding records_after
  records-length [] old = refl
  records-length (j ∷ js) old = ap suc (records-length js (output_after accounts shorts j old))

  -- each record is that of its job called alone
  pub records_alone : (js : List Job) (old : List ℕ) → AllWithin js (length old) → records_after accounts shorts js old ≡ map done_alone js
  unfolding records_after record_after
  records_alone [] old w = refl
  records_alone (j ∷ js) old w =
      let fits = w 0 (omega arith) in
      rw (stretch-length j old fits, records_alone js (output_after accounts shorts j old) (within_then j js old w))

-- the element of a list mapped
map_at : {A : Type 0} (f : A → A) (d : A) (xs : List A) (k : ℕ) → k < length xs → get_or (map f xs) k d ≡ f (get_or xs k d)
map_at f d [] k h = absurd (omega arith)
map_at f d (x ∷ xs) zero h = refl
map_at f d (x ∷ xs) (suc k) h = map_at f d xs k (le_of_suc-le-suc h)

-- ---- jobs that passed 22, in lists that passed 4

module _ (accounts shorts : List ℕ) (js : List Job) (old : List ℕ) (room : length shorts ≤ length old) (laid : misplaced js 0 (length shorts) ≡ false) where
  -- every stretch ends within the output
  pub all_within : AllWithin js (length old)
  all_within k h = omega (arith, ends-within js 0 (length shorts) k laid h)

  -- every two of the jobs are apart
  pub each_apart : EachApart js
  each_apart i k l m x y z = omega (arith, apart js 0 (length shorts) i k laid l m, y.1, z.0)

  -- an element that lies in no stretch is kept, past all of them too
  pub outside_kept : (i : ℕ) → ((k : ℕ) → k < length js → Lies i (get_or js k no_job) → ⊥) → get_or (output_after_all accounts shorts js old) i 0 ≡ get_or old i 0
  outside_kept = outside_all accounts shorts js old all_within

  module _ (k : ℕ) (here : k < length js) where
    -- job k
    abbrev job : Job
    job = get_or js k no_job

    -- the record of a job is that of the job called alone
    pub record_alone : get_or (records_after accounts shorts js old) k no_job ≡ done_alone accounts shorts job
    record_alone = ap (λ rs. get_or rs k no_job) (records_alone accounts shorts js old all_within) ∙ map_at (done_alone accounts shorts) no_job js k here

    -- its amounts are those of the job called alone on an output of its own that held the same
    pub stretch_alone : stretch job (output_after_all accounts shorts js old) ≡ job_output job (stretch job accounts) (stretch job shorts) (stretch job old)
    stretch_alone = stretches_alone accounts shorts js old k all_within each_apart here

    -- a job that is refused keeps its stretch, and of its record all but the number
    pub refused_kept : (n : ℕ) → job_answer job (stretch job accounts) (stretch job shorts) job.positions ≡ refused n
        → (stretch job (output_after_all accounts shorts js old) ≡ stretch job old) × (get_or (records_after accounts shorts js old) k no_job ≡ with_answer job (record { refusal = n; total = job.answer.total; further = job.answer.further }))
    unfolding recorded
    refused_kept n e =
        (stretch_alone ∙ refused-writes job (stretch job accounts) (stretch job shorts) (stretch job old) n (rw (stretch-length job old (all_within k here)) e), record_alone ∙ rw e refl)

-- ---- a call that is not refused before its jobs

-- what it has
pub record Passed (accounts shorts : List ℕ) (js : List Job) (room : ℕ) : Type 0 where
  pub lengths : length accounts ≡ length shorts
  pub few_positions : length shorts ≤ MOST_POSITIONS
  pub enough_room : length shorts ≤ room
  pub few_jobs : length js ≤ MOST_JOBS
  pub laid : misplaced js 0 (length shorts) ≡ false

-- none of 1, 2, 4, 21 and 22 applies
pub verdict_passed : (accounts shorts : List ℕ) (js : List Job) (room : ℕ) → jobs_verdict accounts shorts js room ≡ value tt → Passed accounts shorts js room
unfolding jobs_verdict jobs_rows NoneApplies
verdict_passed accounts shorts js room e =
    let p = value_passed (jobs_rows accounts shorts js room) tt tt e in
    record {
      lengths = eqb-true _ _ (not-false _ p.0);
      few_positions = ltb-false _ _ p.1.0;
      enough_room = ltb-false _ _ p.1.1.0;
      few_jobs = ltb-false _ _ p.1.1.1.0;
      laid = p.1.1.1.1.0;
    }
