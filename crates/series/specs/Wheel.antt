-- The wheel (W), source document 000. I is the assignment increment.
use Rattle.std.specs.Prelude.{ℕ, zero, suc, ◌+◌, ◌-◌, ◌*◌, ◌/◌, ◌%◌, cond, List, ◌++◌, eqb}
use Rattle.series.specs.Places.{total, steps, run, amounts}

-- one contract, in millionths
abbrev pub ONE : ℕ
ONE = 1000000

-- the increment is at most so many contracts
abbrev pub MOST_INCREMENT : ℕ
MOST_INCREMENT = 1000

-- there are at most so many blocks
abbrev pub MOST_BLOCKS : ℕ
MOST_BLOCKS = 1000000

-- T1, the number of blocks: S divided by the increment, rounded up
unfoldable pub blocks : ℕ → ℕ → ℕ
blocks I S = (S + (I - 1)) / I

-- the skip interval in millionths: T divided by T1 to six places, an exact half going up, less the increment; zero where that is below zero
unfoldable pub interval : ℕ → ℕ → ℕ → ℕ
interval I T T1 = (2 * (T * ONE) + T1) / (2 * T1) - I * ONE

-- the places marked by n blocks of I and a last one of l, from place p on, with skip interval k and reserve r
unfoldable pub marks : ℕ → ℕ → ℕ → ℕ → ℕ → ℕ → ℕ → List ℕ
marks T I k l zero p r = run T l p
marks T I k l (suc n) p r = run T I p ++ marks T I k l n (steps T ((k + r) / ONE) (steps T I p)) ((k + r) % ONE)

-- the places marked from starting place p on: T1 - 1 blocks of I and the last one of what is left of S, the reserve zero at first
unfoldable pub wheel_marks : ℕ → ℕ → ℕ → ℕ → List ℕ
wheel_marks I T S p = marks T I (interval I T (blocks I S)) (S - I * (blocks I S - 1)) (blocks I S - 1) p 0

-- the amounts from starting place p: every position whole where S equals T, else the marks on its contracts
unfoldable pub wheel : ℕ → List ℕ → ℕ → ℕ → List ℕ
wheel I hs S p = cond (eqb S (total hs)) hs (amounts hs (wheel_marks I (total hs) S p))

-- the number of blocks handed back: 0 where S equals T
unfoldable pub blocks_used : ℕ → ℕ → ℕ → ℕ
blocks_used I T S = cond (eqb S T) 0 (blocks I S)
