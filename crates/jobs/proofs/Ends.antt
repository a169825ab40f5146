-- What holds of `end` after i records of `last_end`: lists and numbers alone, no memory.
use mathlib.Core.Path.{◌≡◌}
use mathlib.Core.List.{List, []}
use Prim.Native.Nat.{ℕ, suc, ◌+◌, ◌≤◌, ◌<◌, ◌^◌}
use native.Mathlib.Numerals.{add-one}
use lib.ListN.{length, drop, get_or, drop_of_length-le}
use lib.Seq.{drop-cons}
use Rattle.std.specs.Prelude.{None, Some}
use Rattle.std.specs.Option.{option_and_then}
use Rattle.jobs.specs.declared.Job.{Job}
use Rattle.jobs.specs.Turns.{no_job, next_end, last_end}

-- the jobs from i on, after a stretch that ended at `end`, end where all of them end
pub record Seen (js : List Job) (i end : ℕ) : Type 0 where
  pub fits : end < 2 ^ 64
  pub rest : last_end (drop i js) end ≡ last_end js 0

module _ (js : List Job) where
  module _ (i end : ℕ) (t : Seen js i end) where
    -- after the last record
    pub ends : length js ≤ i → Some end ≡ last_end js 0
    unfolding last_end
    ends h = let none : drop i js ≡ [] = drop_of_length-le js h in rw none at t.rest

    -- from record i on
    next : i < length js → option_and_then (last_end (drop (suc i) js)) (next_end (get_or js i no_job) end) ≡ last_end js 0
    unfolding last_end
    next h = rw (drop-cons js i no_job h) at t.rest

    -- after record i
    pub goes_on : i < length js → (r : ℕ) → r < 2 ^ 64 → Some r ≡ next_end (get_or js i no_job) end → Seen js (i + 1) r
    goes_on h r fits e = record { fits = fits; rest = rw add-one (rw (← e) at (next h)) }

    -- record i begins before the previous one ended
    pub stops : i < length js → None ≡ next_end (get_or js i no_job) end → None ≡ last_end js 0
    stops h e = rw (← e) at (next h)
