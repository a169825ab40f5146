-- `walk` meets its contract.
use Rattle.std.proofs.Common.{arith}
use Rattle.allocation.proofs.StretchLaws.{flag_on, on_flag, held_at, walk_first, walk_next, walk_inside, walk_past, growing_first, growing_next, grown_inside, grown_past}
use Rattle.allocation.proofs.places.walk.Goals as goal
use Rattle.allocation.proofs.places.walk.Goals.{then-this-ne0, else-this-ne0}

pub loop-at-init : goal.loop-at-init
loop-at-init g c = record { walk = walk_first _ _ _ c.requires.passed; growing = λ _. growing_first _ _ _ _ }

pub overflow_sub-free : goal.overflow_sub-free
overflow_sub-free g c = c.loop-at.invariant.walk.fits

pub bounds-amounts-at : goal.bounds-amounts-at
bounds-amounts-at g c = (held_at _ _ _ _ _ _ _ (c.requires.small (flag_on _ c.if-this-ne0.true)) (c.loop-at.invariant.growing c.if-this-ne0.true) c.loop-at-test.true).0

pub overflow_add-amounts : goal.overflow_add-amounts
overflow_add-amounts g c = omega (arith, (held_at _ _ _ _ _ _ _ (c.requires.small (flag_on _ c.if-this-ne0.true)) (c.loop-at.invariant.growing c.if-this-ne0.true) c.loop-at-test.true).1)

pub returns-then-left-free-clause-ends : goal.returns-then-left-free-clause-ends
returns-then-left-free-clause-ends g c = walk_inside _ _ _ _ _ _ c.loop-at.invariant.walk c.loop-at-test.true c.if-left-free.true

pub returns-then-left-free-clause-grown : goal.returns-then-left-free-clause-grown
returns-then-left-free-clause-grown g c = λ e.
    let growing = c.loop-at.invariant.growing (on_flag g.row.ASSIGNS e) in
    grown_inside _ _ _ _ _ _ _ _ c.loop-at.invariant.walk c.loop-at-test.true c.if-left-free.true
    (elim c.if-this-ne0.branch [
      | then-this-ne0 w ↦ rw w.amounts-is (growing_next _ _ _ _ _ _ _ _ _ c.loop-at.invariant.walk w.min.ensures growing (held_at _ _ _ _ _ _ _ (c.requires.small e) growing c.loop-at-test.true).0)
      | else-this-ne0 w ↦ absurd (on_flag g.row.ASSIGNS e w.if-this-ne0.false)
    ])

pub loop-at-preserved : goal.loop-at-preserved
loop-at-preserved g c = record {
  walk = walk_next _ _ _ _ _ _ c.loop-at.invariant.walk c.loop-at-test.true c.if-left-free.false;
  growing = λ a. elim c.if-this-ne0.branch [
    | then-this-ne0 w ↦ rw w.amounts-is (growing_next _ _ _ _ _ _ _ _ _ c.loop-at.invariant.walk w.min.ensures (c.loop-at.invariant.growing a) (held_at _ _ _ _ _ _ _ (c.requires.small (flag_on _ a)) (c.loop-at.invariant.growing a) c.loop-at-test.true).0)
    | else-this-ne0 w ↦ absurd (a w.if-this-ne0.false)
  ];
}

pub returns-clause-ends : goal.returns-clause-ends
returns-clause-ends g c = walk_past _ _ _ _ _ _ c.loop-at.invariant.walk c.loop-at-test.false

pub returns-clause-grown : goal.returns-clause-grown
returns-clause-grown g c = λ e. grown_past _ _ _ _ _ _ (c.loop-at.invariant.growing (on_flag g.row.ASSIGNS e)) c.loop-at-test.false
