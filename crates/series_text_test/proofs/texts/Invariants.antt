-- The loop goes up to the end of what was read, and each text lies within it.
use Rattle.std.proofs.Common.{◌-◌, ◌≤◌}
use Rattle.series_text_test.proofs.texts.Given as goal

abbrev pub invariant-loop-at : goal.invariant-loop-at
invariant-loop-at g l = l.n ≤ 8192

abbrev pub decreases-loop-at : goal.decreases-loop-at
decreases-loop-at g l = l.n - l.at
