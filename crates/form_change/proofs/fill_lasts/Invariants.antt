-- `fill_lasts` meets its contract. The loop's invariant: the last numbers of the positions passed are filled in.
use Rattle.form_change.proofs.FillLaws.{Summing}
use Rattle.form_change.proofs.fill_lasts.Given as goal

abbrev pub invariant-loop-i : goal.invariant-loop-i
invariant-loop-i l = Summing l.shorts l.initial.lasts l.lasts l.sum l.i
