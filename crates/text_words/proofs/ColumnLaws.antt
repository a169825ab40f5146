-- The comparison of two lists of numbers.
use Prim.Native.Nat.{ℕ}
use mathlib.Core.Path.{◌≡◌, refl, ap}
use mathlib.Core.Bool.{◌&&◌}
use mathlib.Core.List.{List, [], ◌∷◌}
use lib.Dec.{eqb}
use Rattle.std.specs.Cmp.Lexicographic.{pointwise}
use Rattle.text_rules.specs.Text.{same_numbers}

-- it is the test of the rules
pub same_by : (ms ns : List ℕ) → pointwise eqb ms ns ≡ same_numbers ms ns
unfolding same_numbers
same_by [] [] = refl
same_by [] (n ∷ ns) = refl
same_by (m ∷ ms) [] = refl
same_by (m ∷ ms) (n ∷ ns) = ap (λ t. eqb m n && t) (same_by ms ns)
