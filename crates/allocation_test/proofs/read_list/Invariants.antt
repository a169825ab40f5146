-- The list has room for its numbers.
use Rattle.std.proofs.Common.{length, ◌≤◌}
use Rattle.allocation_test.proofs.read_list.Given as goal

abbrev pub invariant-loop-byte : goal.invariant-loop-byte
invariant-loop-byte l = l.n ≤ length l.list
