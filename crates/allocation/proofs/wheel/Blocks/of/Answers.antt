-- `Blocks::of` meets its contract: the quotient, rounded up, is the definition's, and the whole blocks before the last have fewer than S contracts.
use mathlib.Core.Path.{◌≡◌, refl, ◌∙◌}
use native.Mathlib.Omega.{arith}
use Rattle.series.specs.Wheel.{blocks}
use Rattle.allocation.proofs.BlockLaws.{rounded_up, whole-blocks}
use Rattle.allocation.proofs.wheel.Blocks.of.Goals as goal
use Rattle.allocation.proofs.wheel.Blocks.of.Goals.{After-div_ceil-number}

-- the number of blocks
number : (c : After-div_ceil-number) → c.div_ceil-number.result ≡ blocks c.args.increment.0 c.args.exercised.0
unfolding blocks
number c = c.div_ceil-number.ensures ∙ rounded_up _ _ c.requires.increment.some

pub overflow_sub-last : goal.overflow_sub-last
overflow_sub-last c = (whole-blocks _ _ _ c.requires.increment c.requires.exercised.low (number c)).0

pub overflow_mul-last : goal.overflow_mul-last
overflow_mul-last c = omega (arith, (whole-blocks _ _ _ c.requires.increment c.requires.exercised.low (number (goal.at.overflow_mul-last c).After-div_ceil-number)).1)

pub overflow_sub-last-2 : goal.overflow_sub-last-2
overflow_sub-last-2 c = omega (arith, (whole-blocks _ _ _ c.requires.increment c.requires.exercised.low (number (goal.at.overflow_sub-last-2 c).After-div_ceil-number)).1)

pub returns : goal.returns
returns c = record { number = number (goal.at.returns c).After-div_ceil-number; increment = refl; last = refl }
