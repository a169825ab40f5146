-- Where the stretches of the jobs lie.
use mathlib.Core.Path.{◌≡◌, refl}
use mathlib.Core.Bool.{Bool, true, false, cond, ◌||◌, true≢false}
use mathlib.Core.List.{List, [], ◌∷◌}
use Prim.Native.Nat.{ℕ, zero, suc, ◌≤◌, ◌<◌}
use native.Mathlib.Nat.{le_of_suc-le-suc}
use native.Mathlib.Omega.{arith}
use lib.Dec.{ltb}
use lib.ListN.{length, get_or}
use borrow.Author.Tests.{lt-ltb, le-ltb, ltb-true, ltb-false}
use Rattle.std.specs.Prelude.{Option, None, Some}
use Rattle.std.specs.Option.{option_and_then}
use Rattle.jobs.specs.declared.Job.{Job}
use Rattle.jobs.specs.Jobs.{ending, misplaced}
use Rattle.jobs.specs.Turns.{no_job, last_end}

-- an end that is none, or past a list of n elements
abbrev pub past : ℕ → Option ℕ → Bool
past n None = true
past n (Some e) = ltb n e

-- past a list it stays past it
stays_past : (js : List Job) (e n : ℕ) → n < e → past n (last_end js e) ≡ true
unfolding last_end
stays_past [] e n l = lt-ltb _ _ l
stays_past (j ∷ js) e n l = by_test (ltb j.first e) refl (stays_past js (ending j) n)
  where
    by_test : (y : Bool) → ltb j.first e ≡ y → (n < ending j → past n (last_end js (ending j)) ≡ true) → past n (option_and_then (last_end js) (cond y None (Some (ending j)))) ≡ true
    by_test true t rest = refl
    by_test false t rest = rest (omega (arith, ltb-false j.first e t))

-- the end of the last stretch tells whether one is misplaced
pub end_tells : (js : List Job) (e n : ℕ) → e ≤ n → past n (last_end js e) ≡ misplaced js e n
unfolding last_end misplaced
end_tells [] e n l = le-ltb n e l
end_tells (j ∷ js) e n l = by_begin (ltb j.first e) (λ m. end_tells js (ending j) n m)
  where
    by_end : (z : Bool) → ltb n (ending j) ≡ z → (ending j ≤ n → past n (last_end js (ending j)) ≡ misplaced js (ending j) n) → past n (last_end js (ending j)) ≡ ((z || false) || misplaced js (ending j) n)
    by_end true u rest = stays_past js (ending j) n (ltb-true n (ending j) u)
    by_end false u rest = rest (ltb-false n (ending j) u)

    either : (z rest : Bool) → true ≡ ((z || true) || rest)
    either true rest = refl
    either false rest = refl

    by_begin : (y : Bool) → (ending j ≤ n → past n (last_end js (ending j)) ≡ misplaced js (ending j) n) → past n (option_and_then (last_end js) (cond y None (Some (ending j)))) ≡ ((ltb n (ending j) || y) || misplaced js (ending j) n)
    by_begin true rest = either (ltb n (ending j)) (misplaced js (ending j) n)
    by_begin false rest = by_end (ltb n (ending j)) refl rest

-- of jobs that are not misplaced the first begins at e or later and ends in the list, and the others are not misplaced after it
pub record Placed (j : Job) (js : List Job) (e n : ℕ) : Type 0 where
  pub begins : e ≤ j.first
  pub ends : ending j ≤ n
  pub others : misplaced js (ending j) n ≡ false

pub placed : (j : Job) (js : List Job) (e n : ℕ) → misplaced (j ∷ js) e n ≡ false → Placed j js e n
unfolding misplaced
placed j js e n h = by_both (ltb n (ending j)) (ltb j.first e) refl refl h
  where
    by_both : (y z : Bool) → ltb n (ending j) ≡ y → ltb j.first e ≡ z → ((y || z) || misplaced js (ending j) n) ≡ false → Placed j js e n
    by_both true z t u p = absurd (true≢false p)
    by_both false true t u p = absurd (true≢false p)
    by_both false false t u p = record { begins = ltb-false j.first e u; ends = ltb-false n (ending j) t; others = p }

-- each begins at e or later
pub begins-after : (js : List Job) (e n k : ℕ) → misplaced js e n ≡ false → k < length js → e ≤ (get_or js k no_job).first
begins-after [] e n k h l = absurd (omega arith)
begins-after (j ∷ js) e n zero h l = (placed j js e n h).begins
begins-after (j ∷ js) e n (suc k) h l = let p = placed j js e n h in omega (arith, p.begins, begins-after js (ending j) n k p.others (le_of_suc-le-suc l))

-- each ends in the list
pub ends-within : (js : List Job) (e n k : ℕ) → misplaced js e n ≡ false → k < length js → ending (get_or js k no_job) ≤ n
ends-within [] e n k h l = absurd (omega arith)
ends-within (j ∷ js) e n zero h l = (placed j js e n h).ends
ends-within (j ∷ js) e n (suc k) h l = ends-within js (ending j) n k (placed j js e n h).others (le_of_suc-le-suc l)

-- each ends before any later one begins, so that no two meet
pub apart : (js : List Job) (e n i k : ℕ) → misplaced js e n ≡ false → i < k → k < length js → ending (get_or js i no_job) ≤ (get_or js k no_job).first
apart [] e n i k h l m = absurd (omega arith)
apart (j ∷ js) e n i zero h l m = absurd (omega arith)
apart (j ∷ js) e n zero (suc k) h l m = begins-after js (ending j) n k (placed j js e n h).others (le_of_suc-le-suc m)
apart (j ∷ js) e n (suc i) (suc k) h l m = apart js (ending j) n i k (placed j js e n h).others (le_of_suc-le-suc l) (le_of_suc-le-suc m)
