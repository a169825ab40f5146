-- `cut_off_lem` meets its contract. The invariant: at least `left` positions have `low` or more, and fewer have `low + width` or more; both are counted. The measure is the width.
use Prim.Native.Nat.{◌+◌, ◌-◌, ◌/◌}
use mathlib.Core.Path.{◌≡◌, ap}
use native.Mathlib.Omega.{arith}
use lib.ListN.{length}
use Rattle.series.specs.CutOff.{at_least}
use Rattle.series.proofs.ProRataLaws.{at_least_all, at_least_none}
use Rattle.pro_rata.specs.Rounds.{at}
use Rattle.pro_rata.proofs.RoundTwoLaws.{found, none_found}
use Rattle.pro_rata.proofs.rounds.cut_off.Goals as goal

pub returns-then-left-eq0 : goal.returns-then-left-eq0
returns-then-left-eq0 c = none_found _ _ _ c.if-left-eq0.true

pub loop-width-init : goal.loop-width-init
loop-width-init c = let d = at c.args.parts.now in
    let n = length c.args.parts.now in
    omega (arith, at_least_all d n, at_least_none d 100000 n c.requires.five)

pub loop-width-preserved-then-left-count : goal.loop-width-preserved-then-left-count
loop-width-preserved-then-left-count c = let d = at c.args.parts.now in
    let n = length c.args.parts.now in
    let e : c.loop-width.low + c.loop-width.width / 2 + (c.loop-width.width - c.loop-width.width / 2) ≡ c.loop-width.low + c.loop-width.width = omega arith in
    omega (arith, c.at_least-count.ensures, ap (λ x. at_least d x n) e)

pub loop-width-preserved : goal.loop-width-preserved
loop-width-preserved c = omega (arith, c.at_least-count.ensures)

pub returns : goal.returns
returns c = found c.requires c.loop-width.low (c.loop-width.low + c.loop-width.width) c.loop-width.enough c.loop-width.larger (omega arith) c.loop-width.invariant.4 c.loop-width.invariant.5 c.loop-width.invariant.2 c.loop-width.invariant.3
