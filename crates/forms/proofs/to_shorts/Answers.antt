-- `to_shorts` meets its contract.
use Rattle.forms.proofs.to_shorts.Goals as goal

pub returns-in-LastNumbers : goal.returns-in-LastNumbers
returns-in-LastNumbers c = rw c.in-LastNumbers.is c.take_differences.ensures
