-- `day_by` meets its contract: 0, or any other number.
use Rattle.dilbreth.proofs.DayLaws.{ordinary_by, final_by}
use Rattle.dilbreth.proofs.day.day_by.Goals as goal

pub returns-then-number-eq0 : goal.returns-then-number-eq0
returns-then-number-eq0 c = ordinary_by _ c.if-number-eq0.true

pub returns : goal.returns
returns c = final_by _ c.if-number-eq0.false
