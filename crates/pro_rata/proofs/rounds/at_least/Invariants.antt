-- `at_least` meets its contract. The invariant: the positions passed are counted.
use mathlib.Core.Path.{◌≡◌}
use Rattle.series.specs.CutOff.{at_least}
use Rattle.pro_rata.specs.Rounds.{at}
use Rattle.pro_rata.proofs.rounds.at_least.Given as goal

abbrev pub invariant-loop-part : goal.invariant-loop-part
invariant-loop-part l = l.count ≡ at_least (at l.parts) l.x l.part-index
