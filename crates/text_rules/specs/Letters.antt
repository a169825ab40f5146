-- The letters of the methods.
use Rattle.std.specs.Prelude.{ℕ, cond, List, [], ◌∷◌, eqb}
use Prim.Native.Char.{code}
use Rattle.series.specs.Results.{Result, refused, value}
use Rattle.series.specs.Series.{by_method}
use Rattle.series.specs.declared.Method.{Method}

-- the letter of each method
unfoldable pub letter : Method → ℕ
letter m = by_method m (code "W") (code "P") (code "L") (code "R")

-- the method of these whose letter is b, else 14
unfoldable pub method_among : List Method → ℕ → Result Method
method_among [] b = refused 14
method_among (m ∷ ms) b = cond (eqb b (letter m)) (value m) (method_among ms b)

-- the method of a letter, else 14
unfoldable pub method_by : ℕ → Result Method
method_by b = method_among (Method.Wheel ∷ Method.ProRata ∷ Method.Lottery ∷ Method.RemainderDraw ∷ []) b

-- the method that the field f names, else 14
unfoldable pub method_of : List ℕ → Result Method
method_of [] = refused 14
method_of (b ∷ []) = method_by b
method_of (b ∷ c ∷ f) = refused 14
