-- `copy` meets its contract: a turn copies one element.
use native.Mathlib.Omega.{arith}
use lib.ListN.{length-take}
use Rattle.lists.proofs.CopyLaws.{copied_more}
use Rattle.lists.proofs.copy.Goals as goal

pub loop-i-preserved : goal.loop-i-preserved
loop-i-preserved g c =
    let in_part = c.loop-i-test.true in
    let i = c.loop-i.i in
    copied_more c.args.source.now c.args.target.now c.loop-i.target c.min-n.result i c.element-item.result c.loop-i.invariant c.element-item.is
    (omega (arith, length-take c.min-n.result c.args.source.now)) (omega (arith, length-take c.min-n.result c.args.source.now)) (omega (arith, length-take c.min-n.result c.args.source.now))
