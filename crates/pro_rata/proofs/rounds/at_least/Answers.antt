-- `at_least` meets its contract. The invariant: the positions passed are counted.
use mathlib.Core.Path.{◌≡◌, refl, ap, ◌∙◌}
use native.Mathlib.Omega.{arith}
use borrow.Author.Tests.{le-leb, lt-leb}
use lib.Dec.{leb}
use lib.ListN.{length}
use Rattle.series.specs.Sums.{count_below, sum_below}
use Rattle.series.proofs.SumLaws.{count_more, count_same}
use Rattle.series.specs.CutOff.{at_least}
use Rattle.series.proofs.ProRataLaws.{at_least_le}
use Rattle.pro_rata.specs.Rounds.{at}
use Rattle.pro_rata.proofs.rounds.at_least.Goals.{else-x-part, then-x-part}
use Rattle.pro_rata.proofs.rounds.at_least.Goals as goal

pub loop-part-init : goal.loop-part-init
unfolding at_least count_below sum_below
loop-part-init c = refl

pub overflow_add-count : goal.overflow_add-count
overflow_add-count c = omega (arith, at_least_le (at c.args.parts.now) c.args.x c.loop-part.part-index)

pub loop-part-preserved : goal.loop-part-preserved
unfolding at_least
loop-part-preserved c = let d = at c.args.parts.now in
    elim c.if-x-part.branch [ then-x-part w ↦ omega (arith, count_more (λ j. leb c.args.x (d j)) c.loop-part.part-index (le-leb c.args.x (d c.loop-part.part-index) w.if-x-part.true)) | else-x-part w ↦ omega (arith, count_same (λ j. leb c.args.x (d j)) c.loop-part.part-index (lt-leb c.args.x (d c.loop-part.part-index) w.if-x-part.false)) ]

pub returns : goal.returns
returns c = let d = at c.args.parts.now in
    let e : c.loop-part.part-index ≡ length c.args.parts.now = omega arith in
    c.loop-part.invariant ∙ ap (at_least d c.args.x) e
