-- `round_one` meets its contract. The invariant: the whole and decimal parts of the positions passed are written, and the whole parts summed.
use Prim.Native.Nat.{ℕ}
use mathlib.Core.Path.{◌≡◌}
use mathlib.Core.List.{List}
use Rattle.series.specs.Sums.{sum_below}
use Rattle.series.specs.ProRata.{whole_part, decimal_part}
use Rattle.pro_rata.specs.Rounds.{at, units}
use Rattle.pro_rata.specs.declared.rounds.Percentage.{Percentage}
use Rattle.series.proofs.ListLaws.{filled}
use Rattle.pro_rata.proofs.rounds.round_one.Given as goal

abbrev pub wholes : Percentage → List ℕ → ℕ → ℕ
wholes p shorts i = whole_part (units p) (at shorts i)

abbrev pub decimals_of : Percentage → List ℕ → ℕ → ℕ
decimals_of p shorts i = decimal_part (units p) (at shorts i)

abbrev pub invariant-loop-i : goal.invariant-loop-i
invariant-loop-i l = (l.amounts ≡ filled (wholes l.percentage l.list.shorts.now) l.i l.initial.amounts) × (l.parts ≡ filled (decimals_of l.percentage l.list.shorts.now) l.i l.initial.parts) × (l.sum ≡ sum_below (wholes l.percentage l.list.shorts.now) l.i)
