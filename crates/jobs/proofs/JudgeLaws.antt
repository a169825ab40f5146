-- The verdict on the call: from lengths and the end of the last stretch, and as the rows of a list.
use Prim.Native.Nat.{ℕ}
use mathlib.Core.Path.{◌≡◌, refl, sym}
use mathlib.Core.Bool.{Bool, true, false, not, ◌||◌, cond}
use mathlib.Core.List.{List, [], ◌∷◌, ◌++◌}
use native.Mathlib.Omega.{arith}
use lib.Dec.{eqb, ltb}
use lib.ListN.{length}
use Rattle.series.specs.Results.{Result, refused}
use Rattle.series.specs.Refusals.{◌⟶◌∣◌, first, length_rows, room_rows, stands_in, without}
use Rattle.jobs.specs.declared.Job.{Job}
use Rattle.jobs.specs.Jobs.{MOST_JOBS, misplaced, jobs_rows, jobs_verdict}
use Rattle.jobs.specs.Turns.{last_end}
use Rattle.jobs.proofs.StretchLaws.{past, end_tells}

-- the end of the last stretch tells 22
pub laid_by_end : (js : List Job) (n : ℕ) → misplaced js 0 n ≡ past n (last_end js 0)
laid_by_end js n = sym (end_tells js 0 n (omega arith))

-- 1, 2 and 4 are the rows of a list whose codes are its accounts, 3 left out; 21 and 22 come below them
pub list_rows_lem : (accounts shorts : List ℕ) (js : List Job) (room : ℕ)
    → jobs_verdict accounts shorts js room ≡ first (without (3 ∷ []) (length_rows accounts accounts shorts ++ room_rows shorts room) ++ (ltb MOST_JOBS (length js) ⟶ 21 ∣ misplaced js 0 (length shorts) ⟶ 22 ∣ [])) tt
unfolding jobs_verdict jobs_rows first without stands_in length_rows room_rows
list_rows_lem accounts shorts js room = by_lengths (eqb (length accounts) (length shorts)) _
  where
    by_lengths : (y : Bool) (below : Result Unit) → cond (not y) (refused 1) below ≡ cond (not y || not y) (refused 1) below
    by_lengths true below = refl
    by_lengths false below = refl
