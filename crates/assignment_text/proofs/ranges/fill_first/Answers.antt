-- `ranges::fill_first` meets its contract. The loop's invariant: the ranges of the positions passed are filled in.
use native.Mathlib.Omega.{arith}
use Rattle.assignment_text.proofs.FillLaws.{fill_start, fill_fits, fill_next, fill_end}
use Rattle.assignment_text.proofs.ranges.fill_first.Goals as goal

pub loop-i-init : goal.loop-i-init
loop-i-init c = fill_start _ _ _

pub overflow_add-firsts : goal.overflow_add-firsts
overflow_add-firsts c = omega (arith, fill_fits c.loop-i.invariant c.loop-i-test.true, c.requires.2)

pub overflow_add-passed : goal.overflow_add-passed
overflow_add-passed c = omega (arith, fill_fits c.loop-i.invariant c.loop-i-test.true, c.requires.2)

pub loop-i-preserved : goal.loop-i-preserved
loop-i-preserved c = fill_next c.loop-i.invariant c.loop-i-test.true c.requires.0 c.requires.1

pub returns : goal.returns
returns c = let end = fill_end c.loop-i.invariant (omega arith) in record { result_value = end.0; firsts_after = end.1; lasts_after = end.2 }
