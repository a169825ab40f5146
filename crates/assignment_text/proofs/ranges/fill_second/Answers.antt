-- `ranges::fill_second` meets its contract. The loop's invariant: the numbers passed are filled in, each plus T.
use Prim.Native.Nat.{◌+◌}
use mathlib.Core.Path.{refl}
use native.Mathlib.Omega.{arith}
use lib.ListN.{get_or}
use Rattle.series.proofs.ListLaws.{fill_none, fill_more}
use Rattle.assignment_text.proofs.FillLaws.{take_filled}
use Rattle.assignment_text.proofs.ranges.fill_second.Goals as goal

pub loop-i-init : goal.loop-i-init
loop-i-init c = fill_none (λ j. get_or c.args.numbers.now j 0 + c.args.total.0) c.args.raised.now

pub overflow_add-raised : goal.overflow_add-raised
overflow_add-raised c = omega (arith, c.requires.2 c.loop-i.i c.loop-i-test.true, c.requires.1)

pub loop-i-preserved : goal.loop-i-preserved
loop-i-preserved c = fill_more (λ j. get_or c.args.numbers.now j 0 + c.args.total.0) c.args.raised.now c.loop-i.raised c.loop-i.i _ c.loop-i.invariant (omega (arith, c.requires.0)) refl

pub returns : goal.returns
returns c = take_filled (λ j. get_or c.args.numbers.now j 0 + c.args.total.0) c.args.raised.now c.loop-i.invariant (omega arith)
