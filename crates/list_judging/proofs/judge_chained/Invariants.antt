-- `judge_chained` meets its contract. The invariant: the rows from the position on are left, and the accounts before it are linked.
use Rattle.series.specs.declared.Method.{Method}
use Rattle.list_judging.specs.Chains.{Linked}
use Rattle.rising_lists.proofs.ListLaws.{Judging}
use Rattle.list_judging.proofs.judge_chained.Given as goal

abbrev pub invariant-loop-i : goal.invariant-loop-i
invariant-loop-i l = Judging Method.Wheel l.positions.codes.now l.positions.accounts.now l.positions.shorts.now l.before l.left l.i × Linked l.positions.accounts.now l.chains l.i
