-- The accounts that stand earlier in a list.
use Rattle.std.specs.Prelude.{ℕ, zero, suc, List, [], ◌∷◌, get_or}

-- f (n - 1), .., f 1, f 0
unfoldable pub down_from : (ℕ → ℕ) → ℕ → List ℕ
down_from f zero = []
down_from f (suc n) = f n ∷ down_from f n

-- the accounts before position i, the last one first
abbrev pub earlier : List ℕ → ℕ → List ℕ
earlier accounts i = down_from (λ j. get_or accounts j 0) i
