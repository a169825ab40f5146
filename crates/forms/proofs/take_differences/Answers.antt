-- `take_differences` meets its contract. The loop's invariant: the shorts of the positions passed stand in their places.
use native.Mathlib.Omega.{arith}
use Rattle.forms.proofs.FillLaws.{fill_start, fill_long, fill_step, fill_over}
use Rattle.forms.proofs.take_differences.Goals as goal

pub loop-number-init : goal.loop-number-init
loop-number-init c = fill_start c.args.numbers.now c.args.numbers.now

pub loop-number-smaller : goal.loop-number-smaller
loop-number-smaller c = omega (arith, fill_long c.args.numbers.now c.args.numbers.now c.loop-number.numbers c.loop-number.last c.loop-number.number-index c.loop-number.invariant, c.loop-number-test.true)

pub loop-number-preserved : goal.loop-number-preserved
loop-number-preserved c = fill_step c.args.numbers.now c.loop-number.numbers c.loop-number.last c.loop-number.number-index _ c.loop-number.invariant (omega (arith, fill_long c.args.numbers.now c.args.numbers.now c.loop-number.numbers c.loop-number.last c.loop-number.number-index c.loop-number.invariant, c.loop-number-test.true)) c.saturating_sub.ensures

pub shape_of-numbers : goal.shape_of-numbers
shape_of-numbers c = fill_long c.args.numbers.now c.args.numbers.now c.loop-number.numbers c.loop-number.last c.loop-number.number-index c.loop-number.invariant

pub returns : goal.returns
returns c = fill_over c.args.numbers.now c.loop-number.numbers c.loop-number.last c.loop-number.number-index c.loop-number.invariant (omega (arith, fill_long c.args.numbers.now c.args.numbers.now c.loop-number.numbers c.loop-number.last c.loop-number.number-index c.loop-number.invariant, c.loop-number-test.false))
