-- `Percentage::assignment` meets its contract: the amount is the definition's, its product in two parts.
use Prim.Native.Nat.{◌/◌, ◌%◌}
use mathlib.Core.Path.{ap}
use native.Mathlib.Omega.{arith}
use native.Mathlib.Nat.{mul-le-mul, le_of_lt}
use Rattle.series.specs.ProRata.{whole_part, decimal_part}
use Rattle.pro_rata.proofs.ProductLaws.{amount-parts}
use Rattle.pro_rata.proofs.rounds.Percentage.assignment.Goals as goal

pub overflow_mul-amount : goal.overflow_mul-amount
overflow_mul-amount c = rw c.from-h.ensures (omega (arith, mul-le-mul c.requires.0 c.requires.1.five))

pub overflow_mul-amount-2 : goal.overflow_mul-amount-2
overflow_mul-amount-2 c = rw c.from-h.ensures (omega (arith, mul-le-mul c.requires.0 (le_of_lt c.requires.1.twelve)))

pub overflow_add-amount : goal.overflow_add-amount
overflow_add-amount c = rw c.from-h.ensures (omega (arith, mul-le-mul c.requires.0 c.requires.1.five, mul-le-mul c.requires.0 (le_of_lt c.requires.1.twelve)))

pub overflow_cast-result : goal.overflow_cast-result
overflow_cast-result c = rw c.from-h.ensures (omega (arith, mul-le-mul c.requires.0 c.requires.1.five, mul-le-mul c.requires.0 (le_of_lt c.requires.1.twelve)))

pub returns : goal.returns
unfolding whole_part decimal_part
returns c = let e = amount-parts c.args.shorts.0 c.args.self.high c.args.self.low in
    rw c.from-h.ensures (ap (◌/ 100000) e, ap (◌% 100000) e)
