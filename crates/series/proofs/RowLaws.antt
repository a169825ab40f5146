-- Laws of the refusal table's rows: rows that fail are passed, and the first that applies is the refusal.
use Prim.Native.Nat.{ℕ, zero, suc}
use mathlib.Core.Path.{◌≡◌, refl, ap}
use mathlib.Core.Bool.{Bool, true, false, cond}
use mathlib.Core.List.{List, [], ◌∷◌, ◌++◌}
use native.Mathlib.Omega.{arith}
use lib.ListN.{take, drop}
use Rattle.series.specs.Results.{refused, value, ◌>>=◌}
use Rattle.series.specs.Refusals.{Row, first, NoneApplies}
use Rattle.series.proofs.ResultLaws.{never}

-- row k of the rows, and past them one that does not apply
unfoldable pub row_at : List Row → ℕ → Row
row_at [] k = record { holds = false; number = 0 }
row_at (r ∷ rows) zero = r
row_at (r ∷ rows) (suc k) = row_at rows k

-- k rows that fail are passed
pub passed_first : {A : Type 0} (k : ℕ) (rows : List Row) (a : A) → NoneApplies (take k rows) → first rows a ≡ first (drop k rows) a
unfolding first NoneApplies
passed_first zero rows a h = refl
passed_first (suc k) [] a h = refl
passed_first (suc k) (r ∷ rows) a h = rw h.0 (passed_first k rows a h.1)

-- row k applies, below k rows that fail
pub refused-at : {A : Type 0} (k : ℕ) (rows : List Row) (a : A) → NoneApplies (take k rows) → (row_at rows k).holds ≡ true → first rows a ≡ refused (row_at rows k).number
unfolding first NoneApplies row_at
refused-at k [] a h e = let z : ◌≡◌ {A = ℕ} 0 1 = cc in absurd (omega arith)
refused-at zero (r ∷ rows) a h e = rw e refl
refused-at (suc k) (r ∷ rows) a h e = rw h.0 (refused-at k rows a h.1 e)

-- rows, and then the rows below them
pub first-append : {A : Type 0} (xs ys : List Row) (a : A) → first (xs ++ ys) a ≡ first xs a >>= first ys
unfolding first
first-append [] ys a = refl
first-append (x ∷ xs) ys a = step x.holds (first-append xs ys a)
  where
    step : (b : Bool) → first (xs ++ ys) a ≡ first xs a >>= first ys → cond b (refused x.number) (first (xs ++ ys) a) ≡ cond b (refused x.number) (first xs a) >>= first ys
    step true h = refl
    step false h = h

-- rows above others that come to the same
pub same-below : {A : Type 0} (xs ys zs : List Row) (a : A) → first ys a ≡ first zs a → first (xs ++ ys) a ≡ first (xs ++ zs) a
unfolding first
same-below [] ys zs a h = h
same-below (x ∷ xs) ys zs a h = ap (cond x.holds (refused x.number)) (same-below xs ys zs a h)

-- where no row applies, the value is the one given
pub passed_value : {A : Type 0} (rows : List Row) (a : A) → NoneApplies rows → first rows a ≡ value a
unfolding first NoneApplies
passed_value [] a h = refl
passed_value (r ∷ rows) a h = rw h.0 (passed_value rows a h.1)

-- where there is a value, no row applies
pub value_passed : {A : Type 0} (rows : List Row) (a b : A) → first rows a ≡ value b → NoneApplies rows
unfolding first NoneApplies
value_passed [] a b h = tt
value_passed (r ∷ rows) a b h = step r.holds (value_passed rows a b) h
  where
    step : (c : Bool) → (first rows a ≡ value b → NoneApplies rows) → cond c (refused r.number) (first rows a) ≡ value b → (c ≡ false) × NoneApplies rows
    step true below e = absurd (never r.number b e)
    step false below e = (refl, below e)

pub value_same : {A : Type 0} (rows : List Row) (a b : A) → first rows a ≡ value b → a ≡ b
value_same rows a b h = let e = passed_value rows a (value_passed rows a b h) in cc

pub passed_append : (xs ys : List Row) → NoneApplies (xs ++ ys) → NoneApplies xs × NoneApplies ys
unfolding NoneApplies
passed_append [] ys h = (tt, h)
passed_append (x ∷ xs) ys h = let rest = passed_append xs ys h.1 in ((h.0, rest.0), rest.1)
