-- `ranges::fill_second` meets its contract. The loop's invariant: the numbers passed are filled in, each plus T.
use Prim.Native.Nat.{◌+◌}
use mathlib.Core.Path.{◌≡◌}
use lib.ListN.{get_or}
use Rattle.series.proofs.ListLaws.{filled}
use Rattle.assignment_text.proofs.ranges.fill_second.Given as goal

abbrev pub invariant-loop-i : goal.invariant-loop-i
invariant-loop-i l = l.raised ≡ filled (λ j. get_or l.numbers j 0 + l.total.0) l.i l.initial.raised
