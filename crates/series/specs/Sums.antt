-- Sums, counts and lists over 0, 1, .., n - 1.
use Rattle.std.specs.Prelude.{ℕ, zero, suc, ◌+◌, Bool, true, false, List, [], ◌∷◌, ◌++◌}

-- f 0 + f 1 + .. + f (n - 1)
unfoldable pub sum_below : (ℕ → ℕ) → ℕ → ℕ
sum_below f zero = 0
sum_below f (suc n) = sum_below f n + f n

-- 1 where the test holds, else 0
unfoldable pub bit : Bool → ℕ
bit true = 1
bit false = 0

-- how many of 0, 1, .., n - 1 pass the test t
unfoldable pub count_below : (ℕ → Bool) → ℕ → ℕ
count_below t n = sum_below (λ i. bit (t i)) n

-- f 0, f 1, .., f (n - 1)
unfoldable pub listed : {A : Type 0} → (ℕ → A) → ℕ → List A
listed f zero = []
listed f (suc n) = listed f n ++ (f n ∷ [])
