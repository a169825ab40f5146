-- `serve` meets its contract. The invariant: the tied positions passed are counted, and they and the larger ones are served.
use Prim.Native.Nat.{ℕ, ◌+◌}
use mathlib.Core.Path.{◌≡◌}
use mathlib.Core.List.{List}
use Rattle.series.specs.ProRata.{equal}
use Rattle.series.specs.CutOff.{by_cut_off}
use Rattle.pro_rata.specs.Rounds.{at}
use Rattle.pro_rata.specs.declared.round_two.RoundTwo.{RoundTwo}
use Rattle.series.proofs.ListLaws.{filled}
use Rattle.pro_rata.proofs.rounds.serve.Given as goal

-- what position i holds at the end
abbrev pub given : RoundTwo → List ℕ → List ℕ → ℕ → ℕ
given round parts amounts i = at amounts i + by_cut_off (at parts) round.cut round.first round.tied round.served i

abbrev pub invariant-loop-i : goal.invariant-loop-i
invariant-loop-i l = (l.number ≡ equal (at l.parts) l.round.cut l.i) × (l.amounts ≡ filled (given l.round l.parts l.initial.amounts) l.i l.initial.amounts)
