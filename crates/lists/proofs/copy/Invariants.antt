-- `copy` meets its contract. The loop's invariant: the elements passed are the source's, and those from there on are kept.
use Rattle.std.proofs.Common.{◌≡◌, ◌++◌, take, drop}
use Rattle.lists.proofs.copy.Given as goal

abbrev pub invariant-loop-i : goal.invariant-loop-i
invariant-loop-i g l = l.target ≡ take l.i l.source ++ drop l.i l.fn.target
