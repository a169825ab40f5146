-- A product that passes 64 bits, divided in two parts.
use Prim.Native.Nat.{ℕ, ◌+◌, ◌*◌, ◌/◌, ◌%◌, ◌≤◌, ◌<◌}
use mathlib.Core.Path.{◌≡◌, sym, ap, ◌∙◌}
use native.Mathlib.Omega.{arith}
use native.Mathlib.Nat.{div-add-mod', mul-add-div_right, div-le_of_le-mul}
use Rattle.series.specs.ProRata.{percentage, assignment_amount}

-- a product by b divided by T: the quotient times b, and what is left times b divided again
pub quotient_parts : (x b T : ℕ) → 0 < T → x * b / T ≡ x / T * b + x % T * b / T
quotient_parts x b T pos =
    let e : x * b ≡ (x / T * b) * T + x % T * b = ap (◌* b) (sym (div-add-mod' x T)) ∙ omega arith in
    ap (◌/ T) e ∙ mul-add-div_right pos (x / T * b) (x % T * b)

pub percentage-parts : (S T : ℕ) → 0 < T → S * 100000000 / T * 1000000000 + S * 100000000 % T * 1000000000 / T ≡ percentage S T
unfolding percentage
percentage-parts S T pos = sym (quotient_parts (S * 100000000) 1000000000 T pos) ∙ ap (◌/ T) (omega arith)

-- it is at most one whole
pub units_le : (S T : ℕ) → 0 < T → S ≤ T → S * 100000000 / T * 1000000000 + S * 100000000 % T * 1000000000 / T ≤ 100000000000000000
unfolding percentage
units_le S T pos h = omega (arith, percentage-parts S T pos, div-le_of_le-mul T {m = S * 100000000000000000} {n = 100000000000000000} (omega arith))

pub amount-parts : (h high low : ℕ) → h * high + h * low / 1000000000000 ≡ assignment_amount (high * 1000000000000 + low) h
unfolding assignment_amount
amount-parts h high low =
    let e : h * (high * 1000000000000 + low) ≡ (h * high) * 1000000000000 + h * low = omega arith in
    sym (mul-add-div_right (omega arith) (h * high) (h * low)) ∙ ap (◌/ 1000000000000) (sym e)
