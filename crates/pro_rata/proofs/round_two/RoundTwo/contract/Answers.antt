-- `RoundTwo::contract` meets its contract, by the order of the decimal part and the cut-off.
use mathlib.Core.Path.{sym, ap, ◌∙◌}
use native.Mathlib.Omega.{arith}
use Rattle.series.specs.Sums.{bit}
use Rattle.series.proofs.ProRataLaws.{above, tied, below}
use Rattle.pro_rata.proofs.round_two.RoundTwo.contract.Goals as goal

pub in_turn-requires : goal.in_turn-requires
in_turn-requires c = c.requires c.if-part-self.true

pub returns-then-in_turn : goal.returns-then-in_turn
unfolding bit
returns-then-in_turn c = sym (tied _ _ _ _ _ _ c.if-part-self.true ∙ ap bit (sym c.in_turn.ensures ∙ c.if-in_turn.true))

pub returns-then-part-self : goal.returns-then-part-self
unfolding bit
returns-then-part-self c = sym (tied _ _ _ _ _ _ c.if-part-self.true ∙ ap bit (sym c.in_turn.ensures ∙ c.if-in_turn.false))

pub returns-then-self-part : goal.returns-then-self-part
returns-then-self-part c = sym (above _ _ _ _ _ _ c.if-self-part.true)

pub returns : goal.returns
returns c = sym (below _ _ _ _ _ _ (omega arith))
