-- `fill_shorts` meets its contract. The loop's invariant: the shorts of the positions passed are filled in.
use Rattle.forms.proofs.FillLaws.{Filling}
use Rattle.forms.proofs.fill_shorts.Given as goal

abbrev pub invariant-loop-i : goal.invariant-loop-i
invariant-loop-i l = Filling l.lasts l.initial.shorts l.shorts l.before l.i
