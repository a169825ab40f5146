-- `judge_rising` meets its contract. The invariant: the rows from the position on are left, whatever the method, and no account before it is above the highest.
use Rattle.rising_lists.proofs.ListLaws.{Rising}
use Rattle.rising_lists.proofs.judge_rising.Given as goal

abbrev pub invariant-loop-i : goal.invariant-loop-i
invariant-loop-i l = Rising l.positions.codes.now l.positions.accounts.now l.positions.shorts.now l.before l.highest l.left l.i
