-- `Percentage::of` meets its contract: the two numbers make up the percentage.
use Prim.Native.Nat.{◌*◌}
use native.Mathlib.Omega.{arith}
use native.Mathlib.Nat.{mod-lt}
use Rattle.pro_rata.proofs.ProductLaws.{percentage-parts, units_le}
use Rattle.pro_rata.proofs.rounds.Percentage.of.Goals as goal

pub overflow_mul-units : goal.overflow_mul-units
overflow_mul-units c = rw (c.from-s.ensures, c.from-t.ensures) (omega (arith, units_le c.args.exercised.0 c.args.total.0 c.requires.some c.requires.most))

pub overflow_mul-units-2 : goal.overflow_mul-units-2
overflow_mul-units-2 c = rw (c.from-s.ensures, c.from-t.ensures) (omega (arith, mod-lt (c.args.exercised.0 * 100000000) c.requires.some))

pub overflow_add-units : goal.overflow_add-units
overflow_add-units c = rw (c.from-s.ensures, c.from-t.ensures) (omega (arith, units_le c.args.exercised.0 c.args.total.0 c.requires.some c.requires.most))

pub returns : goal.returns
returns c = let parts = percentage-parts c.args.exercised.0 c.args.total.0 c.requires.some in
    let most = units_le c.args.exercised.0 c.args.total.0 c.requires.some c.requires.most in
    rw (c.from-s.ensures, c.from-t.ensures) (omega arith, record { five = omega arith; twelve = omega arith })
