-- The invariant: so many positions of the merged list are passed, whatever the shorts. The measure is what is left of both lists.
use Rattle.std.proofs.Common.{◌≡◌, ◌+◌, ◌-◌, ◌≤◌, List, length}
use Rattle.merging.specs.Merging.{Position, accounts_of}
use Rattle.merging.proofs.WalkLaws.{Walked}
use Rattle.merging.proofs.count_merged.Given as goal

abbrev pub invariant-loop-i : goal.invariant-loop-i
invariant-loop-i l = record {
  on_first : l.i ≤ length l.first;
  on_second : l.j ≤ length l.second;
  few : l.n ≤ l.i + l.j;
  walked : (ps qs : List Position) → accounts_of ps ≡ l.first → accounts_of qs ≡ l.second → Walked ps qs l.i l.j l.n;
}

abbrev pub decreases-loop-i : goal.decreases-loop-i
decreases-loop-i l = (length l.first + length l.second) - (l.i + l.j)
