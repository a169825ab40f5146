-- No line is longer than the longest, and which line a number has that is no refusal's.
use Prim.Native.Nat.{ℕ, zero, suc, ◌≤◌}
use mathlib.Core.Path.{◌≡◌, refl}
use mathlib.Core.Bool.{Bool}
use mathlib.Core.List.{List}
use native.Mathlib.Omega.{arith}
use native.Mathlib.Decide.{dec_lt}
use borrow.Author.Tests.{leb-true}
use Rattle.std.specs.List.{list_all}
use Rattle.std.proofs.lemmas.List.Recursion.{and_at}
use lib.Dec.{leb}
use lib.ListN.{length, get_or-eq_default}
use Rattle.series.specs.Ascii.{ascii}
use Rattle.explanation.specs.Explanation.{refusals, no_refusal, explanation, LONGEST}

-- ---- no line is longer

-- a line is no longer than the longest
abbrev within : List ℕ → Bool
within l = leb (length l) LONGEST

-- nor is that of any number
pub explanation-within : (n : ℕ) → length (explanation n) ≤ LONGEST
unfolding explanation refusals no_refusal ascii
explanation-within zero = omega arith
explanation-within (suc n) = elim (dec_lt n (length refusals)) [
  | yes l ↦ leb-true _ LONGEST (and_at (list_all within) within refl (λ l ls. refl) refusals n no_refusal l refl)
  | no g ↦ let past : length refusals ≤ n = omega arith in rw (get_or-eq_default refusals no_refusal past) (omega arith)
]

-- ---- the numbers that are no refusal's

-- n is none of 1 to k
abbrev pub Misses : ℕ → ℕ → Type 0
Misses zero n = Unit
Misses (suc k) n = Misses k n × (n ≡ suc k → ⊥)

above : (k n : ℕ) → Misses k (suc n) → k ≤ n
above zero n m = omega arith
above (suc k) n m = omega (arith, above k n m.0, m.1)

-- a number that is none of 1 to 24 is no refusal's
pub no_refusal_lem : (n : ℕ) → Misses 24 n → explanation n ≡ no_refusal
unfolding explanation refusals
no_refusal_lem zero m = refl
no_refusal_lem (suc n) m = get_or-eq_default refusals no_refusal (above 24 n m)
