-- `take_differences` meets its contract. The loop's invariant: the shorts of the positions passed stand in their places.
use Rattle.forms.proofs.FillLaws.{Filling}
use Rattle.forms.proofs.take_differences.Given as goal

abbrev pub invariant-loop-number : goal.invariant-loop-number
invariant-loop-number l = Filling l.initial.numbers l.initial.numbers l.numbers l.last l.number-index
