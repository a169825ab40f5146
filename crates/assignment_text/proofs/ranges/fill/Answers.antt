-- `ranges::fill` meets its contract: the first ranges, and the second ones from them.
use native.Mathlib.Omega.{arith}
use lib.ListN.{length}
use lib.Seq.{length-take-le}
use Rattle.assignment_text.proofs.FillLaws.{firsts_raised, lasts_raised, firsts_near, lasts_near, columns_are}
use Rattle.assignment_text.proofs.ranges.fill.Goals as goal

pub fill_second-requires : goal.fill_second-requires
fill_second-requires c =
    let first = c.fill_first-total.ensures in
    (omega (arith, length-take-le (length c.args.shorts.now) c.fill_first-total.new.firsts (omega arith)), omega (arith, first.result_value, c.requires.1), firsts_near c.args.shorts.now first.result_value first.firsts_after)

pub fill_second-requires-2 : goal.fill_second-requires-2
fill_second-requires-2 c =
    let first = c.fill_first-total.ensures in
    (omega (arith, length-take-le (length c.args.shorts.now) c.fill_first-total.new.lasts (omega arith)), omega (arith, first.result_value, c.requires.1), lasts_near c.args.shorts.now first.result_value first.lasts_after)

pub returns : goal.returns
returns c =
    let first = c.fill_first-total.ensures in
    let firsts2 = firsts_raised c.args.shorts.now first.result_value c.fill_second.new.raised first.firsts_after c.fill_second.ensures in
    let lasts2 = lasts_raised c.args.shorts.now first.result_value c.fill_second-2.new.raised first.lasts_after c.fill_second-2.ensures in
    λ accounts. columns_are c.args.shorts.now _ _ _ _ accounts first.firsts_after first.lasts_after firsts2 lasts2
