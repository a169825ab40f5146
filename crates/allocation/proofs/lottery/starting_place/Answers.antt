-- `starting_place` meets its contract: under L the quotient, rounded up, is the definition's.
use Rattle.std.proofs.Common.{refl, arith}
use Rattle.series.specs.Lottery.{starting_place}
use Rattle.series.specs.RemainderDraw.{remainder_place}
use Rattle.allocation.proofs.lottery.starting_place.Goals as goal

pub returns-in-TenThousandths : goal.returns-in-TenThousandths
unfolding starting_place
returns-in-TenThousandths c = rw (c.in-TenThousandths.is, c.div_ceil.ensures, c.from.ensures, c.from-in-TenThousandths.ensures) (omega arith)

pub returns-in-Remainder : goal.returns-in-Remainder
unfolding remainder_place
returns-in-Remainder c = rw c.in-Remainder.is refl
