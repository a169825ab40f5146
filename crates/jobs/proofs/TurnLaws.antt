-- What holds of the records and of the output after i jobs of `run_jobs`: lists and numbers alone, no memory.
--     Turned       the invariant: the first i records are done, the later ones are as they were, and what is left to do gives what the whole gives
--     goes_on, ends    after one more job, and where every job is done
--     placed_at        the next job is in place
use mathlib.Core.Path.{◌≡◌, sym, ◌∙◌, ap}
use mathlib.Core.List.{List, [], ◌∷◌, ◌++◌, append_assoc, append-nil}
use Prim.Native.Nat.{ℕ, suc, ◌+◌, ◌≤◌, ◌<◌}
use native.Mathlib.Numerals.{add-one}
use native.Mathlib.Omega.{arith}
use lib.ListN.{length, take, drop, get_or, set, length-set, drop_of_length-le}
use lib.Seq.{drop-cons, take_all, take-suc-set, drop-set-lt}
use Rattle.series.specs.Outputs.{lent}
use Rattle.jobs.specs.declared.Job.{Job}
use Rattle.jobs.specs.Jobs.{records_after, output_after_all}
use Rattle.jobs.specs.Turns.{no_job, InPlace, AllInPlace, JobDone, JobsDone}

pub record Turned (accounts shorts : List ℕ) (js : List Job) (old : List ℕ) (i : ℕ) (zs : List Job) (os : List ℕ) : Type 0 where
  pub sized : length zs ≡ length js
  pub room : length os ≡ length old
  pub upto : i ≤ length js
  pub later : drop i zs ≡ drop i js
  pub jobs : take i zs ++ records_after accounts shorts (drop i zs) os ≡ records_after accounts shorts js old
  pub outs : output_after_all accounts shorts (drop i zs) os ≡ output_after_all accounts shorts js old

module _ (accounts shorts : List ℕ) (js : List Job) (old : List ℕ) where
  module _ (i : ℕ) (zs : List Job) (os : List ℕ) (t : Turned accounts shorts js old i zs os) where
    pub ends : length js ≤ i → JobsDone accounts shorts (lent js zs) (lent old os)
    unfolding records_after output_after_all
    ends h =
        let over : length zs ≤ i = omega (arith, t.sized) in
        let none : drop i zs ≡ [] = drop_of_length-le zs over in
        record { records = rw (none, take_all i zs over, append-nil) at t.jobs; writes = rw none at t.outs }

    module _ (h : i < length js) where
      within : i < length zs
      within = omega (arith, t.sized)

      -- the records from the next on
      split : get_or zs i no_job ∷ drop (suc i) zs ≡ get_or js i no_job ∷ drop (suc i) js
      split = sym (drop-cons zs i no_job within) ∙ t.later ∙ drop-cons js i no_job h

      pub placed_at : AllInPlace js accounts shorts old → InPlace (get_or zs i no_job) accounts shorts os
      placed_at all =
          let p = all i h in
          let same : get_or zs i no_job ≡ get_or js i no_job = ap (λ (l : List Job). get_or l 0 no_job) split in
          rw same (record { in_accounts = p.in_accounts; in_shorts = p.in_shorts; in_amounts = rw t.room p.in_amounts })

      pub goes_on : (r : Job) (new : List ℕ) → JobDone (get_or zs i no_job) accounts shorts r os new → length new ≡ length os → Turned accounts shorts js old (i + 1) (set zs i r) new
      unfolding records_after output_after_all
      goes_on r new made e = record {
        sized = length-set zs i r ∙ t.sized;
        room = e ∙ t.room;
        upto = omega arith;
        later = rw (add-one, drop-set-lt (suc i) zs i r (omega arith)) (ap (λ (l : List Job). drop 1 l) split);
        jobs = rw (add-one, take-suc-set zs i r within, drop-set-lt (suc i) zs i r (omega arith), append_assoc, made.recorded_as, made.written) (rw (drop-cons zs i no_job within) at t.jobs);
        outs = rw (add-one, drop-set-lt (suc i) zs i r (omega arith), made.written) (rw (drop-cons zs i no_job within) at t.outs);
      }
