-- `fill_shorts` meets its contract. The loop's invariant: the shorts of the positions passed are filled in.
use Prim.Native.Nat.{◌+◌}
use mathlib.Core.Path.{sym, subst}
use native.Mathlib.Omega.{arith}
use lib.ListN.{get_or, set}
use Rattle.forms.proofs.FillLaws.{Filling, fill_start, fill_long, fill_next, fill_end, fill_full}
use Rattle.forms.proofs.fill_shorts.Goals as goal

pub loop-i-init : goal.loop-i-init
loop-i-init c = fill_start c.args.lasts.now c.args.shorts.now

pub shape_of-shorts-then-shorts-i : goal.shape_of-shorts-then-shorts-i
shape_of-shorts-then-shorts-i c = fill_long c.args.lasts.now c.args.shorts.now c.loop-i.shorts c.loop-i.before c.loop-i.i c.loop-i.invariant

pub returns-then-shorts-i : goal.returns-then-shorts-i
returns-then-shorts-i c = let long = fill_long c.args.lasts.now c.args.shorts.now c.loop-i.shorts c.loop-i.before c.loop-i.i c.loop-i.invariant in
    fill_full c.args.lasts.now c.args.shorts.now c.loop-i.shorts c.loop-i.before c.loop-i.i c.loop-i.invariant (omega (arith, long, c.if-shorts-i.true))

pub bounds-shorts-i : goal.bounds-shorts-i
bounds-shorts-i c = c.if-shorts-i.false

pub loop-i-preserved : goal.loop-i-preserved
loop-i-preserved c = let long = fill_long c.args.lasts.now c.args.shorts.now c.loop-i.shorts c.loop-i.before c.loop-i.i c.loop-i.invariant in
    subst (λ v. Filling c.args.lasts.now c.args.shorts.now (set c.loop-i.shorts c.loop-i.i v) (get_or c.args.lasts.now c.loop-i.i 0) (c.loop-i.i + 1)) (sym c.saturating_sub.ensures)
    (fill_next c.args.lasts.now c.args.shorts.now c.loop-i.shorts c.loop-i.before c.loop-i.i c.loop-i.invariant c.loop-i-test.true (omega (arith, long, c.if-shorts-i.false)))

pub shape_of-shorts : goal.shape_of-shorts
shape_of-shorts c = fill_long c.args.lasts.now c.args.shorts.now c.loop-i.shorts c.loop-i.before c.loop-i.i c.loop-i.invariant

pub returns : goal.returns
returns c = fill_end c.args.lasts.now c.args.shorts.now c.loop-i.shorts c.loop-i.before c.loop-i.i c.loop-i.invariant c.loop-i-test.false
