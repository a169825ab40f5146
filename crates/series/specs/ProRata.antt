-- Pro rata (P), source document 001.
use Rattle.std.specs.Prelude.{ℕ, ◌+◌, ◌-◌, ◌*◌, ◌/◌, ◌%◌, ◌^◌, ◌<◌, List, eqb, ltb, length, get_or}
use Rattle.series.specs.Sums.{sum_below, bit, count_below, listed}
use Rattle.series.specs.Places.{total}

-- the exercise percentage in units of the 17th decimal: S divided by T, later digits dropped
unfoldable pub percentage : ℕ → ℕ → ℕ
percentage S T = S * 10 ^ 17 / T

-- the assignment amount in units of the 5th decimal: shorts times the percentage q, later digits dropped
unfoldable pub assignment_amount : ℕ → ℕ → ℕ
assignment_amount q h = h * q / 10 ^ 12

-- the whole part, which round one assigns
unfoldable pub whole_part : ℕ → ℕ → ℕ
whole_part q h = assignment_amount q h / 10 ^ 5

-- the decimal part, by which round two goes
unfoldable pub decimal_part : ℕ → ℕ → ℕ
decimal_part q h = assignment_amount q h % 10 ^ 5

-- what round one assigns to position i
unfoldable pub round_one : List ℕ → ℕ → ℕ → ℕ
round_one hs S i = whole_part (percentage S (total hs)) (get_or hs i 0)

-- the decimal part of position i
unfoldable pub decimals : List ℕ → ℕ → ℕ → ℕ
decimals hs S i = decimal_part (percentage S (total hs)) (get_or hs i 0)

-- the contracts of round two: what remains of S
unfoldable pub remainder : List ℕ → ℕ → ℕ
remainder hs S = S - sum_below (round_one hs S) (length hs)

-- how many of the first n positions have a decimal part larger than x
unfoldable pub larger : (ℕ → ℕ) → ℕ → ℕ → ℕ
larger d x n = count_below (λ i. ltb x (d i)) n

-- how many of the first n positions have the decimal part x
unfoldable pub equal : (ℕ → ℕ) → ℕ → ℕ → ℕ
equal d x n = count_below (λ i. eqb (d i) x) n

-- a tie: the remainder runs out at the decimal part x, and not all positions that share it can be served
pub record Tie (d : ℕ → ℕ) (n left x : ℕ) : Type 0 where
  pub fewer : larger d x n < left
  pub more : left < larger d x n + equal d x n

-- how many of g tied positions come before number k + 1: number (draw modulo g) + 1 begins, and after number g comes number 1
unfoldable pub turn : ℕ → ℕ → ℕ → ℕ
turn draw g k = (k + (g - draw % g)) % g

-- how many of n positions come before position i: all with a larger decimal part, and of the equal ones those whose turn is earlier
unfoldable pub rank : (ℕ → ℕ) → ℕ → ℕ → ℕ → ℕ
rank d n draw i = larger d (d i) n + turn draw (equal d (d i) n) (equal d (d i) i)

-- what round two assigns to position i: one contract, if fewer than the remaining contracts come before it
unfoldable pub round_two : (ℕ → ℕ) → ℕ → ℕ → ℕ → ℕ → ℕ
round_two d n draw left i = bit (ltb (rank d n draw i) left)

-- the amounts: both rounds together
unfoldable pub pro_rata : List ℕ → ℕ → ℕ → List ℕ
pro_rata hs S draw = listed (λ i. round_one hs S i + round_two (decimals hs S) (length hs) draw (remainder hs S) i) (length hs)
