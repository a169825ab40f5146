-- The invariant: so many positions of the merged list are written. The measure is what is left of both lists.
use Rattle.std.proofs.Common.{◌+◌, ◌-◌, length}
use Rattle.merging.specs.Merging.{account_list_of}
use Rattle.merging.proofs.WriteLaws.{Writing}
use Rattle.merging.proofs.write_merged.Given as goal

abbrev pub invariant-loop-i : goal.invariant-loop-i
invariant-loop-i l = Writing (account_list_of l.first) (account_list_of l.second) l.initial.accounts l.initial.shorts l.accounts l.shorts l.i l.j l.n

abbrev pub decreases-loop-i : goal.decreases-loop-i
decreases-loop-i l = (length l.first.accounts.now + length l.second.accounts.now) - (l.i + l.j)
