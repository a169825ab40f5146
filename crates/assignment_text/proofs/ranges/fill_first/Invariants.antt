-- `ranges::fill_first` meets its contract. The loop's invariant: the ranges of the positions passed are filled in.
use Rattle.assignment_text.proofs.FillLaws.{Filling}
use Rattle.assignment_text.proofs.ranges.fill_first.Given as goal

abbrev pub invariant-loop-i : goal.invariant-loop-i
invariant-loop-i l = Filling l.shorts l.initial.firsts l.initial.lasts l.firsts l.lasts l.passed l.i
