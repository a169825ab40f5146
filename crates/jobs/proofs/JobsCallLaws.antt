-- The call over the jobs from its verdict: what it keeps where it is refused, and what it runs where it is not.
use mathlib.Core.Path.{◌≡◌, refl, sym, ap}
use mathlib.Core.Bool.{Bool, true, false, cond}
use mathlib.Core.List.{List}
use Prim.Native.Nat.{ℕ, suc}
use native.Mathlib.Omega.{arith}
use lib.ListN.{length}
use Rattle.std.specs.Prelude.{Option}
use Rattle.series.specs.Results.{Result, refused, value, status}
use Rattle.series.specs.Outputs.{lent}
use Rattle.jobs.specs.declared.Job.{Job}
use Rattle.series.specs.Refusals.{first}
use Rattle.jobs.specs.Jobs.{jobs_rows, jobs_verdict, JobsCall}
use Rattle.jobs.specs.Turns.{last_end, Measured, AllInPlace, JobsDone}
use Rattle.jobs.proofs.StretchLaws.{ends-within}
use Rattle.jobs.proofs.AloneLaws.{verdict_passed}

-- a row of a number above 0, above others: a call that answers 0 passes it
passes : (y : Bool) (n : ℕ) (below : Result Unit) → (status below ≡ 0 → below ≡ value tt) → status (cond y (refused (suc n)) below) ≡ 0 → cond y (refused (suc n)) below ≡ value tt
passes true n below others z = absurd (omega arith)
passes false n below others z = others z

module _ (accounts shorts : List ℕ) (js : List Job) (old : List ℕ) where
  -- what judging the call comes to
  abbrev pub Verdict : Result Unit
  Verdict = jobs_verdict accounts shorts js (length old)

  -- what `judge` says of its answer r, by the lengths and the end of the last stretch
  abbrev pub Judged : Option ℕ → Result Unit → Type 0
  Judged end r = (given held : List ℕ) (ks : List Job) → Measured given held ks (length accounts) (length shorts) (length js) end → r ≡ jobs_verdict given held ks (length old)

  -- of these lists it is that
  pub answers : (end : Option ℕ) (r : Result Unit) → end ≡ last_end js 0 → Judged end r → r ≡ Verdict
  answers end r e judges = judges accounts shorts js (record { accounts_length = refl; shorts_length = refl; jobs_length = refl; last_end_is = sym e })

  -- refused before any job: records and output are kept
  pub refuses : (n : ℕ) → refused n ≡ Verdict → JobsCall accounts shorts n (lent js js) (lent old old)
  refuses n e = record { answers = ap status e; records = rw (← e) refl; writes = rw (← e) refl }

  -- where its number is 0 it is no refusal
  pub accepted : status Verdict ≡ 0 → Verdict ≡ value tt
  unfolding jobs_verdict jobs_rows first
  accepted = passes _ 0 _ (passes _ 1 _ (passes _ 3 _ (passes _ 20 _ (passes _ 21 _ (λ _. refl)))))

  module _ (is : value tt ≡ Verdict) where
    -- no refusal: every stretch lies in the lists and the output
    pub in_place : AllInPlace js accounts shorts old
    in_place k h =
        let p = verdict_passed accounts shorts js (length old) (sym is) in
        let within = ends-within js 0 (length shorts) k p.laid h in
        record { in_accounts = omega (arith, p.lengths); in_shorts = within; in_amounts = omega (arith, p.enough_room) }

    -- and what running every job leaves is what the call leaves
    pub runs_all : (zs : List Job) (os : List ℕ) → JobsDone accounts shorts (lent js zs) (lent old os) → JobsCall accounts shorts 0 (lent js zs) (lent old os)
    runs_all zs os d = record { answers = ap status is; records = rw (← is) d.records; writes = rw (← is) d.writes }
