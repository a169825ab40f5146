-- `walk` meets its contract. The invariant: it has come to position `at`, and where it assigns, the amounts before that have grown.
use Rattle.std.proofs.Common.{◌≡◌, ◌+◌}
use Rattle.allocation.proofs.StretchLaws.{Walk, Growing}
use Rattle.allocation.proofs.places.walk.Given as goal

abbrev pub invariant-loop-at : goal.invariant-loop-at
invariant-loop-at g l = record {
  walk : Walk l.shorts l.initial.passed (l.initial.passed + l.initial.left) l.at l.passed l.left;
  growing : (g.row.ASSIGNS ≡ 0 → ⊥) → Growing l.shorts l.initial.amounts l.amounts l.initial.passed (l.initial.passed + l.initial.left) l.at;
}
