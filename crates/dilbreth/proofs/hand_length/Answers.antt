-- `hand_length` meets its contract.
use mathlib.Core.Path.{refl}
use Rattle.dilbreth.proofs.hand_length.Goals as goal

pub returns-in-Err : goal.returns-in-Err
returns-in-Err c = rw c.in-Err.is (record { answers = c.from.ensures; hands_number = refl })
