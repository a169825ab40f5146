-- `RoundTwo::in_turn` meets its contract: a turn is at most one subtraction and one sum.
use mathlib.Core.Path.{sym, ap}
use lib.Dec.{ltb}
use Rattle.pro_rata.proofs.RoundTwoLaws.{turn_low, turn-high}
use Rattle.pro_rata.proofs.round_two.RoundTwo.in_turn.Goals as goal

pub returns-then-number-self : goal.returns-then-number-self
returns-then-number-self c = ap (λ t. ltb t c.args.self.served) (sym (turn_low c.args.self.first c.args.self.tied c.args.number c.args.self.begins c.if-number-self.true))

pub returns-else-number-self : goal.returns-else-number-self
returns-else-number-self c = ap (λ t. ltb t c.args.self.served) (sym (turn-high c.args.self.first c.args.self.tied c.args.number c.requires c.if-number-self.false))
