-- Cut-off first (document 02): the decimal part at which the remainder runs out, and round two by it.
use Rattle.std.specs.Prelude.{ℕ, zero, suc, ◌+◌, ◌-◌, ◌*◌, ◌^◌, ◌≤◌, ◌<◌, cond, List, eqb, ltb, leb, length}
use Rattle.std.proofs.Math.Option.{Option, none, some}
use Rattle.series.specs.Sums.{bit, count_below}
use Rattle.series.specs.ProRata.{decimals, remainder, larger, equal, turn}

-- how many of the first n positions have a decimal part as large as x or larger
unfoldable pub at_least : (ℕ → ℕ) → ℕ → ℕ → ℕ
at_least d x n = count_below (λ i. leb x (d i)) n

-- from the largest to the smallest, the first decimal part below x for which at least `left` of n positions have one as large or larger; none where there is none
unfoldable pub first_below : (ℕ → ℕ) → ℕ → ℕ → ℕ → Option ℕ
first_below d n left zero = none
first_below d n left (suc x) = cond (leb left (at_least d x n)) (some x) (first_below d n left x)

-- the cut-off: the decimal part at which what is left for n positions, no more than one contract each, runs out; none where nothing is left
unfoldable pub cut_off : (ℕ → ℕ) → ℕ → ℕ → Option ℕ
cut_off d n left = cond (eqb left 0) none (first_below d n left (10 ^ 5))

-- the cut-off of the list hs with S exercised
abbrev pub cut_off_in : List ℕ → ℕ → Option ℕ
cut_off_in hs S = cut_off (decimals hs S) (length hs) (remainder hs S)

-- what is left runs out at x: fewer positions have a larger decimal part, and at least as many have one as large or larger
pub record RunsOutAt (d : ℕ → ℕ) (n left x : ℕ) : Type 0 where
  pub fewer : larger d x n < left
  pub enough : left ≤ at_least d x n

-- by the cut-off c, which g positions share and m of them can be served: one contract to a position whose decimal part x is larger, and to number k + 1 of those that share it if its turn is among the first m
unfoldable pub at_cut_off : ℕ → ℕ → ℕ → ℕ → ℕ → ℕ → ℕ
at_cut_off c draw g m x k = bit (ltb c x) + bit (eqb x c) * bit (ltb (turn draw g k) m)

-- what position i gets by it, its number being counted in list order
abbrev pub by_cut_off : (ℕ → ℕ) → ℕ → ℕ → ℕ → ℕ → ℕ → ℕ
by_cut_off d c draw g m i = at_cut_off c draw g m (d i) (equal d c i)

-- what round two assigns to position i by a cut-off, or without one
unfoldable pub round_two_at : Option ℕ → (ℕ → ℕ) → ℕ → ℕ → ℕ → ℕ → ℕ
round_two_at none d n draw left i = 0
round_two_at (some c) d n draw left i = by_cut_off d c draw (equal d c n) (left - larger d c n) i

-- round two by the cut-off
unfoldable pub round_two_by_cut_off : (ℕ → ℕ) → ℕ → ℕ → ℕ → ℕ → ℕ
round_two_by_cut_off d n draw left i = round_two_at (cut_off d n left) d n draw left i
