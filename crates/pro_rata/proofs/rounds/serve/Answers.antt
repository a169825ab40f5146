-- `serve` meets its contract. The invariant: the tied positions passed are counted, and they and the larger ones are served.
use Prim.Native.Nat.{◌+◌}
use mathlib.Core.Path.{◌≡◌, refl, ap, ap₂, ◌∙◌}
use native.Mathlib.Omega.{arith}
use lib.ListN.{length}
use Rattle.series.specs.Sums.{listed, count_below, sum_below}
use Rattle.series.specs.ProRata.{equal}
use Rattle.series.specs.CutOff.{at_cut_off}
use Rattle.series.proofs.ProRataLaws.{equal-more, equal-same, equal-before}
use Rattle.pro_rata.specs.Rounds.{at}
use Rattle.series.proofs.ListLaws.{fill_none, fill_more, fill_rest, fill_all, fill_length}
use Rattle.pro_rata.proofs.RoundTwoLaws.{one-most}
use Rattle.pro_rata.proofs.rounds.serve.Invariants.{given}
use Rattle.pro_rata.proofs.rounds.serve.Goals.{else-part-cut, then-part-cut}
use Rattle.pro_rata.proofs.rounds.serve.Goals as goal

pub loop-i-init : goal.loop-i-init
unfolding equal count_below sum_below
loop-i-init c = (refl, fill_none _ _)

pub contract-requires : goal.contract-requires
contract-requires c = let d = at c.args.parts.now in
    λ e. omega (arith, c.requires.tied, c.loop-i.invariant.0, equal-before d c.args.round.cut _ c.loop-i.i c.loop-i-test.true e)

pub bounds-amounts-i : goal.bounds-amounts-i
bounds-amounts-i c = omega (arith, fill_length _ _ _ _ c.loop-i.invariant.1 (omega arith))

pub overflow_add-amounts : goal.overflow_add-amounts
overflow_add-amounts c = omega (
  arith,
  fill_rest _ _ _ _ c.loop-i.invariant.1 (omega arith),
  c.requires.room.room c.loop-i.i (omega arith),
  c.contract.ensures,
  one-most c.args.round.cut c.args.round.first c.args.round.tied c.args.round.served (at c.args.parts.now c.loop-i.i) c.loop-i.number,
)

pub bounds-amounts-i-in-loop-i : goal.bounds-amounts-i-in-loop-i
bounds-amounts-i-in-loop-i c = omega (arith, fill_length _ _ _ _ c.loop-i.invariant.1 (omega arith))

pub overflow_add-number : goal.overflow_add-number
overflow_add-number c = omega (arith, c.requires.tied, c.loop-i.invariant.0, equal-before (at c.args.parts.now) c.args.round.cut _ c.loop-i.i c.loop-i-test.true c.if-part-cut.true)

pub loop-i-preserved : goal.loop-i-preserved
loop-i-preserved c = let d = at c.args.parts.now in (
  elim c.if-part-cut.branch [ then-part-cut w ↦ omega (arith, c.loop-i.invariant.0, equal-more d c.args.round.cut c.loop-i.i w.if-part-cut.true) | else-part-cut w ↦ omega (arith, c.loop-i.invariant.0, equal-same d c.args.round.cut c.loop-i.i w.if-part-cut.false) ],
  fill_more _ _ _ _ _ c.loop-i.invariant.1 (omega arith)
      (ap₂ ◌+◌ (fill_rest _ _ _ _ c.loop-i.invariant.1 (omega arith))
      (c.contract.ensures ∙ ap (at_cut_off c.args.round.cut c.args.round.first c.args.round.tied c.args.round.served (d c.loop-i.i)) c.loop-i.invariant.0)),
)

pub shape_of-amounts : goal.shape_of-amounts
shape_of-amounts c = omega (arith, fill_length _ _ _ _ c.loop-i.invariant.1 (omega arith))

pub returns : goal.returns
returns c = let e : c.loop-i.i ≡ length c.args.amounts.now = omega arith in
    c.loop-i.invariant.1 ∙ fill_all _ _ _ (omega arith) ∙ ap (listed (given c.args.round c.args.parts.now c.args.amounts.now)) e
