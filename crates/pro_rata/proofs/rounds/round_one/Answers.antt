-- `round_one` meets its contract. The invariant: the whole and decimal parts of the positions passed are written, and the whole parts summed.
use Prim.Native.Nat.{ℕ, ◌+◌}
use mathlib.Core.Path.{◌≡◌, refl, ap, ap₂, ◌∙◌}
use native.Mathlib.Omega.{arith}
use lib.ListN.{length}
use Rattle.series.specs.Sums.{sum_below, listed}
use Rattle.series.proofs.SumLaws.{sum-next}
use Rattle.pro_rata.proofs.JudgedLaws.{shorts_le, assigned_le, wholes_are, decimals_are}
use Rattle.series.proofs.ListLaws.{fill_none, fill_more, fill_all, fill_length}
use Rattle.pro_rata.proofs.rounds.round_one.Invariants.{wholes}
use Rattle.pro_rata.proofs.rounds.round_one.Goals as goal

pub loop-i-init : goal.loop-i-init
unfolding sum_below
loop-i-init c = (fill_none _ _, fill_none _ _, refl)

pub assignment-assignment-requires : goal.assignment-assignment-requires
assignment-assignment-requires c = (shorts_le c.args.list.now c.loop-i.i c.loop-i-test.true, c.of-percentage.ensures.1)

pub bounds-amounts-i : goal.bounds-amounts-i
bounds-amounts-i c = omega (arith, fill_length _ _ _ _ c.loop-i.invariant.0 (omega arith))

pub bounds-parts-i : goal.bounds-parts-i
bounds-parts-i c = omega (arith, fill_length _ _ _ _ c.loop-i.invariant.1 (omega arith))

pub overflow_add-sum : goal.overflow_add-sum
overflow_add-sum c =
    let next-sum : c.loop-i.sum + c.assignment-assignment.result.whole ≡ sum_below (wholes c.of-percentage.result c.args.list.now.shorts.now) (c.loop-i.i + 1) = let f = wholes c.of-percentage.result c.args.list.now.shorts.now in
    omega (arith, c.loop-i.invariant.2, c.assignment-assignment.ensures.0, sum-next f c.loop-i.i) in
    let whole = wholes_are c.args.list.now _ c.of-percentage.ensures.0 in
    omega (arith, next-sum, ap (λ (f : ℕ → ℕ). sum_below f (c.loop-i.i + 1)) whole, assigned_le c.args.list.now (c.loop-i.i + 1) (omega arith))

pub loop-i-preserved : goal.loop-i-preserved
loop-i-preserved c =
    let next-sum : c.loop-i.sum + c.assignment-assignment.result.whole ≡ sum_below (wholes c.of-percentage.result c.args.list.now.shorts.now) (c.loop-i.i + 1) = let f = wholes c.of-percentage.result c.args.list.now.shorts.now in
    omega (arith, c.loop-i.invariant.2, c.assignment-assignment.ensures.0, sum-next f c.loop-i.i) in
    (fill_more _ _ _ _ _ c.loop-i.invariant.0 (omega arith) c.assignment-assignment.ensures.0, fill_more _ _ _ _ _ c.loop-i.invariant.1 (omega arith) c.assignment-assignment.ensures.1, next-sum)

pub shape_of-amounts : goal.shape_of-amounts
shape_of-amounts c = omega (arith, fill_length _ _ _ _ c.loop-i.invariant.0 (omega arith))

pub shape_of-parts : goal.shape_of-parts
shape_of-parts c = omega (arith, fill_length _ _ _ _ c.loop-i.invariant.1 (omega arith))

pub returns : goal.returns
returns c = let e : c.loop-i.i ≡ length c.args.list.now.shorts.now = omega arith in
    let whole = wholes_are c.args.list.now _ c.of-percentage.ensures.0 in
    let decimal = decimals_are c.args.list.now _ c.of-percentage.ensures.0 in
    record {
      assigned = c.loop-i.invariant.2 ∙ ap₂ sum_below whole e;
      written = c.loop-i.invariant.0 ∙ fill_all _ _ _ (omega arith) ∙ ap₂ listed whole e;
      parted = c.loop-i.invariant.1 ∙ fill_all _ _ _ (omega arith) ∙ ap₂ listed decimal e;
    }
