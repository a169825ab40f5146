-- The contracts of a list, numbered 1 to T: the places on the wheel.
use Rattle.std.specs.Prelude.{ℕ, zero, suc, ◌+◌, ◌≤◌, ◌<◌, ◌≡◌, Bool, true, cond, ◌&&◌, List, [], ◌∷◌, eqb, ltb, leb, length, get_or, take}
use Rattle.series.specs.Sums.{bit, sum_below, listed}

-- T: the sum of all shorts
unfoldable pub total : List ℕ → ℕ
total [] = 0
total (h ∷ hs) = h + total hs

-- p is a place on a wheel of T contracts: 1 to T
pub record OnWheel (T p : ℕ) : Type 0 where
  pub low : 1 ≤ p
  pub high : p ≤ T

-- the place after p: the place after T is 1
unfoldable pub next : ℕ → ℕ → ℕ
next T p = cond (eqb p T) 1 (p + 1)

-- the place n steps after p
unfoldable pub steps : ℕ → ℕ → ℕ → ℕ
steps T zero p = p
steps T (suc n) p = steps T n (next T p)

-- n places, one after the other, from p on
unfoldable pub run : ℕ → ℕ → ℕ → List ℕ
run T zero p = []
run T (suc n) p = p ∷ run T n (next T p)

-- contract m is one of b + 1 up to e
unfoldable pub within : ℕ → ℕ → ℕ → Bool
within b e m = ltb b m && leb m e

-- how many of the marked places ms are contracts b + 1 up to e
unfoldable pub marked : ℕ → ℕ → List ℕ → ℕ
marked b e [] = 0
marked b e (m ∷ ms) = bit (within b e m) + marked b e ms

-- how many contracts stand before those of position i
unfoldable pub before : List ℕ → ℕ → ℕ
before hs i = total (take i hs)

-- the last contract of position i: the first position has 1 up to its shorts, each next one begins one above the last number before it
unfoldable pub last : List ℕ → ℕ → ℕ
last hs i = before hs i + get_or hs i 0

-- contract c belongs to position i
pub record Belongs (hs : List ℕ) (i c : ℕ) : Type 0 where
  pub position : i < length hs
  pub in_range : within (before hs i) (last hs i) c ≡ true

-- for each position the marks on its contracts
unfoldable pub amounts : List ℕ → List ℕ → List ℕ
amounts hs ms = listed (λ i. marked (before hs i) (last hs i) ms) (length hs)

-- the sum of f over the places 1 to T
unfoldable pub over_places : ℕ → (ℕ → ℕ) → ℕ
over_places T f = sum_below (λ i. f (suc i)) T
