-- Sub-accounts (document 02): several consecutive positions in the place of one, with the same total.
use Rattle.std.specs.Prelude.{ℕ, ◌+◌, ◌<◌, ◌≡◌, Bool, true, false, length, get_or, take, drop}
use mathlib.Core.List.{List, ◌∷◌, ◌++◌, map, flatten}
use Rattle.series.specs.Places.{total}
use Rattle.series.specs.Series.{by_method}
use Rattle.series.specs.declared.Method.{Method}

-- the methods with this rule, whose amounts are marks on places: W, L and R. P has none
abbrev pub by_places : Method → Bool
by_places m = by_method m true false true true

-- in the place of one number of xs, which comes after n others, ys has m consecutive ones with the same total; all others are the same
pub record Split (n m : ℕ) (xs ys : List ℕ) : Type 0 where
  pub earlier : List ℕ
  pub one : ℕ
  pub parts : List ℕ
  pub later : List ℕ
  pub unsplit : xs ≡ earlier ++ (one ∷ later)
  pub split : ys ≡ earlier ++ (parts ++ later)
  pub same_total : total parts ≡ one
  pub place : length earlier ≡ n
  pub number : length parts ≡ m

-- the amounts vs before such a split and ws after it: every other position keeps its amount, and the new ones together get what the old one got
pub record OthersKeep (n m : ℕ) (vs ws : List ℕ) : Type 0 where
  pub earlier_keep : (i : ℕ) → i < n → get_or ws i 0 ≡ get_or vs i 0
  pub together : total (take m (drop n ws)) ≡ get_or vs n 0
  pub later_keep : (j : ℕ) → get_or ws (n + m + j) 0 ≡ get_or vs (n + 1 + j) 0

-- any number of them split at once: ys is made of groups of consecutive numbers, as many in each as ns says, and xs has their totals
pub record SplitAtOnce (ns : List ℕ) (xs ys : List ℕ) : Type 0 where
  pub groups : List (List ℕ)
  pub totals : xs ≡ map total groups
  pub split : ys ≡ flatten groups
  pub numbers : map length groups ≡ ns
